use Rattle.std.proofs.Common.{◌+◌, drop, ap, sym, ◌∙◌, arith, length-take-le}
use Rattle.macho_export_lists.specs.steps.Matching.{matches_behind}
use Rattle.macho_export_lists.proofs.Matching.{step, missed, last_star, plain_from}
use Rattle.macho_export_lists.proofs.patterns.matches_behind.Goals as goal

pub returns-in_default-find : goal.returns-in_default-find
returns-in_default-find c =
    sym (missed c.loop-star.entry.now c.loop-star.left.now c.in-Some.star c.in-Some.ensures.0 c.in-Some.ensures.1 c.in_default-find.ensures)
    ∙ c.loop-star.invariant

pub behind-left-requires : goal.behind-left-requires
behind-left-requires c =
    let first = c.in-Some.ensures.0 in
    let fits = c.in-Some-find.ensures.1 in
    let short = length-take-le c.in-Some.star c.loop-star.entry.now (omega (arith, first.high)) in
    omega (arith, fits.fits, short)

pub loop-star-preserved : goal.loop-star-preserved
loop-star-preserved c =
    ap (λ e. matches_behind e c.behind-left.result.now) c.behind-entry.ensures
    ∙ ap (matches_behind (drop (c.in-Some.star + 1) c.loop-star.entry.now)) c.behind-left.ensures
    ∙ sym (step c.loop-star.entry.now c.loop-star.left.now c.in-Some.star c.in-Some-find.at c.in-Some.ensures.0 c.in-Some.ensures.1
    c.in-Some-find.ensures.0 c.in-Some-find.ensures.1)
    ∙ c.loop-star.invariant

pub returns : goal.returns
returns c =
    c.ends_with.ensures.value
    ∙ sym (last_star c.loop-star.entry.now c.loop-star.left.now (plain_from c.loop-star.entry.now c.in_default.ensures))
    ∙ c.loop-star.invariant
