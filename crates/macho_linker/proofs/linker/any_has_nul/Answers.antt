-- A test of the paths' texts is a test of the texts.
use Rattle.std.proofs.Common.{rules, tests, ◌∙◌}
use Rattle.std.specs.String.{string_bytes}
use Rattle.std.proofs.lemmas.Iterator.{YieldsList-from_slice}
use Rattle.std.proofs.lemmas.Iterator.Search.{any_from_yields_List}
use Rattle.macho_model.specs.Faults.{has_zero}
use Rattle.macho_linker.proofs.Taking.{any_path}
use Rattle.macho_linker.proofs.linker.any_has_nul.Goals as goal

pub returns : goal.returns
returns c =
    any_from_yields_List (λ path. has_zero (string_bytes path)) _ _ _ c.any.ensures.ran (YieldsList-from_slice c.args.paths.now cc)
    (λ x b q k. search (rules, tests))
    ∙ any_path has_zero c.args.paths.now
