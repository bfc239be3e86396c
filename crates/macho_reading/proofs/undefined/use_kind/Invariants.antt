use Rattle.std.proofs.Common.{List}
use Rattle.macho_model.specs.Links.{Input}
use Rattle.macho_symbol_names.specs.Kept.{Keeps}
use Rattle.macho_reading.proofs.undefined.use_kind.Given as goal

abbrev pub invariant-loop-file : goal.invariant-loop-file
invariant-loop-file v = (inputs : List Input) → Keeps inputs v.initial.needs.resolved.files → Keeps inputs v.needs.resolved.files
