use Rattle.std.proofs.Common.{◌≡◌, ◌++◌, take}
use Rattle.std.specs.List.{flat_map}
use Rattle.macho_members.specs.Views.{texts}
use Rattle.macho_members.proofs.needed.add_used.Given as goal

-- the names so far, and behind them those of the members so far
abbrev pub invariant-loop-member : goal.invariant-loop-member
invariant-loop-member l =
    texts l.names.items ≡ texts l.initial.names.items ++ flat_map (λ m. texts m.used.now) (take l.member-index l.members)
