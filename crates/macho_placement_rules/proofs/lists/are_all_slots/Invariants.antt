-- What holds before number k: the first k lead to the first k targets.
use Rattle.std.proofs.Common.{◌≡◌, ℕ, ◌<◌, get_or, true}
use Rattle.macho_model.specs.Targets.{same_target}
use Rattle.macho_model.specs.declared.placed.Slot.{Slot}
use Rattle.macho_model.specs.declared.targets.Target.{Target}
use Rattle.macho_placement_rules.proofs.lists.are_all_slots.Given as goal

abbrev pub invariant-loop-number : goal.invariant-loop-number
invariant-loop-number l =
    (k : ℕ) (d : Slot) (e : Target) → k < l.number → same_target (get_or l.slots k d).target (get_or l.targets k e) ≡ true
