use Rattle.std.proofs.Common.{◌≡◌, ◌≤◌, drop, length}
use Rattle.macho_bytes.specs.Uleb.{uleb_value}
use Rattle.macho_wire.proofs.uleb.number_of.Given as goal

-- the number of the groups that are done
abbrev pub invariant-loop-left : goal.invariant-loop-left
invariant-loop-left l = (l.left ≤ length l.groups) × (l.value ≡ uleb_value (drop l.left l.groups))

abbrev pub decreases-loop-left : goal.decreases-loop-left
decreases-loop-left l = l.left
