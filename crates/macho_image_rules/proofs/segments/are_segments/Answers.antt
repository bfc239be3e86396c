-- Whether segments of an image are those of a placement.
--
-- They are as many, and each is that of its number; one that isn't shows that they are others.
use Rattle.std.proofs.Common.{ℕ, sym, ◌∙◌, arith}
use Rattle.macho_image_rules.specs.Segments.{SegmentIs}
use Rattle.macho_image_rules.proofs.Zipped.{zipped, zipped_long, zipped_at, zipped_more}
use Rattle.macho_image_rules.proofs.segments.are_segments.Goals as goal

pub returns-then-commands-segments-clause-only : goal.returns-then-commands-segments-clause-only
returns-then-commands-segments-clause-only c = λ same.
    absurd (omega (arith, zipped_long SegmentIs c.args.commands.now c.args.segments.now same))

pub returns-then-not-is_segment-clause-only : goal.returns-then-not-is_segment-clause-only
returns-then-not-is_segment-clause-only c = λ same.
    sym c.if-not-is_segment.true ∙ c.is_segment.ensures.only
    (zipped_at SegmentIs c.args.commands.now c.args.segments.now c.loop-number.number _ _ same c.loop-number-test.true)

pub loop-number-preserved : goal.loop-number-preserved
loop-number-preserved c =
    let n : ℕ = c.loop-number.number in
    zipped_more SegmentIs c.args.commands.now c.args.segments.now n _ _ (omega arith) (omega arith) c.loop-number.invariant
    c.if-not-is_segment.ensures.found

pub returns-clause-found : goal.returns-clause-found
returns-clause-found c =
    zipped SegmentIs c.args.commands.now c.args.segments.now (omega arith)
    (λ k d e low. c.loop-number.invariant k d e (omega arith))
