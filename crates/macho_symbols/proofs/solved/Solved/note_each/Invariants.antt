use Rattle.std.proofs.Common.{take}
use Rattle.macho_export_lists.specs.Entries.{texts_of}
use Rattle.macho_symbols.specs.steps.Solved.{HaveNoted}
use Rattle.macho_symbols.proofs.solved.Solved.note_each.Given as goal

abbrev pub invariant-loop-name : goal.invariant-loop-name
invariant-loop-name l = HaveNoted l.fn.self l.self (take l.name-index (texts_of l.names))
