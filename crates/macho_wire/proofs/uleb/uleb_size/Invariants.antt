use Rattle.std.proofs.Common.{◌≡◌, ◌+◌, ◌-◌, length}
use Rattle.macho_bytes.specs.Uleb.{uleb_of, groups_of, MOST_GROUPS}
use Rattle.macho_wire.proofs.uleb.uleb_size.Given as goal

-- the groups of the value are those passed and those of the rest
abbrev pub invariant-loop-size : goal.invariant-loop-size
invariant-loop-size l = length (uleb_of l.value) + 1 ≡ l.size + length (groups_of (MOST_GROUPS - l.size) l.rest)
