-- One header more is added at the end.
use Rattle.std.proofs.Common.{sym, ap, map, ◌∙◌}
use Rattle.std.proofs.lemmas.List.{map_more, take_all}
use Rattle.macho_layout.specs.Headers.{header_of}
use Rattle.macho_layout.proofs.plan.Plan.headers.Goals as goal

pub loop-one-preserved : goal.loop-one-preserved
loop-one-preserved c =
    rw (c.in_ok-push.ensures.items, c.loop-one.invariant, c.header.ensures)
    (sym (map_more (header_of c.args.self.now c.args.extents.now c.args.segments.now) c.args.placed.now _ _ c.loop-one-test.true))

pub returns : goal.returns
returns c = c.loop-one.invariant
    ∙ ap (map (header_of c.args.self.now c.args.extents.now c.args.segments.now)) (take_all _ c.args.placed.now c.loop-one-test.false)
