-- All imports are told at the end.
use Rattle.std.proofs.Common.{ap, ◌∙◌}
use Rattle.std.specs.Prelude.{map}
use Rattle.std.proofs.lemmas.List.{take_all}
use Rattle.macho_symbol_tables.specs.steps.Says.{told_in}
use Rattle.macho_symbol_tables.proofs.ImportsTold.{all_imports}
use Rattle.macho_symbol_tables.proofs.told.told_imports.Goals as goal

pub returns : goal.returns
returns c l are needed =
    let names = map (λ n. n.items) c.args.libraries.now in
    c.loop-import.invariant
    ∙ ap (map (told_in names)) (take_all c.loop-import.import-index c.args.imports.now c.loop-import-test.false)
    ∙ all_imports l c.args.imports.now names are needed
