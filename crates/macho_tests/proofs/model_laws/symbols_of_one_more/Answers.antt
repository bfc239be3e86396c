use Rattle.std.proofs.Common.{List, length, ap, ◌∙◌}
use Rattle.std.proofs.lemmas.List.{length-append}
use Rattle.macho_model.specs.Resolution.{SymbolId, symbols_of, symbols_of_file}
use Rattle.macho_tests.proofs.model_laws.symbols_of_one_more.Goals as goal

pub returns : goal.returns
returns c l x =
    ap (λ (ss : List SymbolId). length ss) (c.one_input_more_adds_its_own.ensures.symbols l x)
    ∙ length-append (symbols_of l) (symbols_of_file (length l.inputs) x)
