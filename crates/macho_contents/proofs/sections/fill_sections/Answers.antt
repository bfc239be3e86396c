-- One section after the other is taken care of.
use Rattle.std.proofs.Common.{arith, length, sym, subst, ◌<◌}
use Rattle.std.specs.Prelude.{Contains}
use Rattle.macho_layout.specs.Placements.{placed_of}
use Rattle.macho_contents.specs.steps.Sections.{IsDone}
use Rattle.macho_contents.proofs.Firsts.{none_done, one_more_done, all_filled, all_asked, all_stand}
use Rattle.macho_contents.proofs.sections.fill_sections.Goals as goal

pub loop-index-init : goal.loop-index-init
loop-index-init g c l all = none_done l (placed_of c.args.placement.now) c.args.out.now c.args.run.now.items

pub loop-index-preserved : goal.loop-index-preserved
loop-index-preserved g c l all =
    let p = placed_of c.args.placement.now in
    let q = c.index-section.result.now in
    let lt : c.loop-index.index < length c.args.placement.now.sections.items = omega
    (arith, c.loop-index-test.true, c.len-index-end.ensures) in
    let here : Contains c.args.placement.now.sections.items q = (c.loop-index.index, lt, sym c.index-section.ensures) in
    one_more_done l p c.loop-index.index q c.args.out.now c.loop-index.out c.fill_one.new.out c.args.run.now.items c.loop-index.run.items
    c.fill_one.new.run.items lt (c.loop-index.invariant l all)
    (subst (λ x. IsDone l p x c.loop-index.out c.fill_one.new.out c.loop-index.run.items c.fill_one.new.run.items) c.index-section.ensures
    (c.in_ok-fill_one.ensures.done l all here))

pub returns-clause-done : goal.returns-clause-done
returns-clause-done g c l all =
    all_filled l (placed_of c.args.placement.now) c.loop-index.index c.args.out.now c.loop-index.out c.args.run.now.items
    c.loop-index.run.items
    (omega (arith, c.loop-index-test.false, c.len-index-end.ensures)) (c.loop-index.invariant l all)

pub returns-clause-asked : goal.returns-clause-asked
returns-clause-asked g c l all =
    all_asked l (placed_of c.args.placement.now) c.loop-index.index c.args.out.now c.loop-index.out c.args.run.now.items
    c.loop-index.run.items
    (omega (arith, c.loop-index-test.false, c.len-index-end.ensures)) (c.loop-index.invariant l all)

pub returns-clause-only : goal.returns-clause-only
returns-clause-only g c l all =
    all_stand l (placed_of c.args.placement.now) c.loop-index.index c.args.out.now c.loop-index.out c.args.run.now.items
    c.loop-index.run.items
    (omega (arith, c.loop-index-test.false, c.len-index-end.ensures)) (c.loop-index.invariant l all)
