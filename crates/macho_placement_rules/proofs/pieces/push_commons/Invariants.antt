-- What holds before number k: the first k have been added.
use Rattle.std.proofs.Common.{◌≡◌, ◌++◌, map, take}
use Rattle.macho_placement_rules.specs.steps.Pieces.{common_part}
use Rattle.macho_placement_rules.proofs.pieces.push_commons.Given as goal

abbrev pub invariant-loop-common : goal.invariant-loop-common
invariant-loop-common l = l.parts.items ≡ l.initial.parts.items ++ map (common_part l.specs) (take l.common-index l.commons)
