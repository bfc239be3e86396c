-- The elements so far have their parts.
use Rattle.std.proofs.Common.{◌≡◌, ◌++◌, map, take}
use Rattle.macho_retool.specs.steps.PartLists.{range_part}
use Rattle.macho_retool.proofs.parts.add_tables.Given as goal

abbrev pub invariant-loop-range : goal.invariant-loop-range
invariant-loop-range l = l.parts.items ≡ l.fn.parts.items ++ map (range_part l.fixed) (take l.range-index l.ranges)
