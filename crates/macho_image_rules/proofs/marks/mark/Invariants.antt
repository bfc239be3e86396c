-- What holds before byte i: the bytes up to it are marked.
use Rattle.macho_image_rules.specs.steps.Marks.{MarkedMore}
use Rattle.macho_image_rules.proofs.marks.mark.Given as goal

abbrev pub invariant-loop-i : goal.invariant-loop-i
invariant-loop-i l = MarkedMore l.from l.i l.initial.marks l.marks
