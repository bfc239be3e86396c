use Rattle.std.proofs.Common.{◌≡◌, false, take, All}
use Rattle.macho_export_lists.specs.Entries.{texts_of}
use Rattle.macho_symbols.specs.steps.Targets.{is_missing_in}
use Rattle.macho_symbols.proofs.solved.Solved.find_all.Given as goal

abbrev pub invariant-loop-name : goal.invariant-loop-name
invariant-loop-name l = All (λ name. is_missing_in l.self.files.items name ≡ false) (take l.name-index (texts_of l.names))
