-- The loop ends at the last place, so the bytes up to there are marked.
use Rattle.std.proofs.Common.{subst, arith, ℕ, ◌≡◌}
use Rattle.macho_image_rules.specs.steps.Marks.{MarkedMore}
use Rattle.macho_image_rules.proofs.marks.mark.Goals as goal

pub returns : goal.returns
returns c =
    let same : c.loop-i.i ≡ c.args.to = omega arith in
    subst (λ (i : ℕ). MarkedMore c.args.from i c.args.marks.now c.loop-i.marks) same c.loop-i.invariant
