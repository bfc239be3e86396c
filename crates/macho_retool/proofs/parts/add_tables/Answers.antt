-- Each element adds its part.
use Rattle.macho_retool.specs.steps.PartLists.{range_part}
use Rattle.macho_retool.proofs.Lists.{map_begins, map_goes_on, map_ends}
use Rattle.macho_retool.proofs.parts.add_tables.Goals as goal

pub loop-range-init : goal.loop-range-init
loop-range-init c = map_begins (range_part c.args.fixed) c.args.ranges.now c.args.parts.now.items

pub loop-range-preserved : goal.loop-range-preserved
loop-range-preserved c =
    map_goes_on (range_part c.args.fixed) c.args.ranges.now c.loop-range.range-index _ c.args.parts.now.items
    c.loop-range.parts.items c.push.new.self.items
    c.loop-range-test.true c.loop-range.invariant c.in_ok-push.ensures.items

pub returns : goal.returns
returns c =
    map_ends (range_part c.args.fixed) c.args.ranges.now c.loop-range.range-index c.args.parts.now.items c.loop-range.parts.items
    c.loop-range-test.false
    c.loop-range.invariant
