-- Whether none of the parts reaches into a later one.
--
-- The last part with bytes ends behind all before it. A part that begins before that end shares a byte with it; any other is swept, too.
use Rattle.std.proofs.Common.{◌+◌, sym, subst, arith}
use Rattle.macho_placement_rules.specs.declared.parts.Part.{Part}
use Rattle.macho_placement_rules.specs.steps.Parts.{IsSwept}
use Rattle.macho_placement_rules.proofs.Swept.{begins_before, reaches, swept_empty, swept_next}
use Rattle.macho_placement_rules.proofs.parts.none_reaches_the_next.Goals.{then-part-ne0+else-part-last, else-part-ne0}
use Rattle.macho_placement_rules.proofs.parts.none_reaches_the_next.Goals as goal

-- an empty part at 0
abbrev none : Part
none = record { start = 0; size = 0; exponent = 0 }

pub overflow_sub-part : goal.overflow_sub-part
overflow_sub-part c =
    begins_before c.args.parts.now c.loop-part.part-index c.loop-part.last none c.requires
    c.loop-part.invariant c.loop-part-test.true

pub returns-then-part-last-clause-only : goal.returns-then-part-last-clause-only
returns-then-part-last-clause-only c = λ apart.
    absurd (reaches c.args.parts.now c.loop-part.part-index c.loop-part.last none c.requires
    c.loop-part.invariant c.loop-part-test.true (omega arith)
    (omega (
      arith,
      begins_before c.args.parts.now c.loop-part.part-index c.loop-part.last none
          c.requires c.loop-part.invariant c.loop-part-test.true,
    )) apart)

pub loop-part-preserved : goal.loop-part-preserved
loop-part-preserved c =
    elim c.if-part-ne0.branch [
      | then-part-ne0+else-part-last w ↦
          subst (IsSwept c.args.parts.now (c.loop-part.part-index + 1)) (sym w.last-is)
          (swept_next c.args.parts.now c.loop-part.part-index c.loop-part.last none
          c.loop-part.invariant c.loop-part-test.true
          (omega (
            arith,
            begins_before c.args.parts.now c.loop-part.part-index c.loop-part.last
                none c.requires c.loop-part.invariant c.loop-part-test.true,
          )))
      | else-part-ne0 w ↦
          subst (IsSwept c.args.parts.now (c.loop-part.part-index + 1)) (sym w.last-is)
          (swept_empty c.args.parts.now c.loop-part.part-index c.loop-part.last none
          c.loop-part.invariant c.loop-part-test.true (omega arith))
    ]
