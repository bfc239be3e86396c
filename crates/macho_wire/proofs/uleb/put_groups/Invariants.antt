use Rattle.std.proofs.Common.{◌≡◌, ◌-◌, ◌++◌, take}
use Rattle.macho_bytes.specs.Uleb.{uleb_of, groups_of, MOST_GROUPS}
use Rattle.macho_bytes.proofs.Ulebs.{FitsGroups}
use Rattle.macho_wire.proofs.uleb.put_groups.Given as goal

-- the groups of the value are those written and those of the rest
abbrev pub invariant-loop-count : goal.invariant-loop-count
invariant-loop-count l =
    (uleb_of l.value ≡ take l.count l.groups ++ groups_of (MOST_GROUPS - 1 - l.count) l.rest) × FitsGroups
    (MOST_GROUPS - 1 - l.count) l.rest
