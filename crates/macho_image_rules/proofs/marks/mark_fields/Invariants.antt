-- What holds before a relocation: the fields of those before it are marked.
use Rattle.std.proofs.Common.{length}
use Rattle.macho_image_rules.specs.steps.Marks.{AreMarks}
use Rattle.macho_image_rules.proofs.marks.mark_fields.Given as goal

abbrev pub invariant-loop-index : goal.invariant-loop-index
invariant-loop-index l = AreMarks l.list.bytes l.list.section l.index (length l.initial.marks) l.marks
