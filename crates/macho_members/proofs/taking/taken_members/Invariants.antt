use Rattle.std.proofs.Common.{◌+◌, ◌-◌, ◌*◌, ◌^◌, length}
use Rattle.std.specs.List.{IsDistinct}
use Rattle.macho_members.specs.Views.{inputs_of, texts}
use Rattle.macho_members.specs.steps.Taken.{AreUnderway}
use Rattle.macho_members.specs.steps.Held.{held, place_eq}
use Rattle.macho_members.proofs.Counted.{all_places}
use Rattle.macho_members.proofs.taking.taken_members.Given as goal

-- the search is underway, and no member is taken twice
abbrev pub invariant-loop-name : goal.invariant-loop-name
invariant-loop-name l = record {
  underway : AreUnderway (inputs_of l.inputs) (held l.taken.keys) (texts l.pending.items);
  distinct : IsDistinct place_eq l.taken.keys;
}

-- the members that are left, and then the names
abbrev pub decreases-loop-name : goal.decreases-loop-name
decreases-loop-name l = (length (all_places 0 (inputs_of l.inputs)) - length l.taken.keys) * 2 ^ 64 + length l.pending.items
