-- What holds before number k: the first k lie in the segment.
use Rattle.std.proofs.Common.{ℕ, ◌<◌, true, get_or}
use Rattle.macho_model.specs.declared.placed.Slot.{Slot}
use Rattle.macho_model.specs.Segments.{DATA_CONST}
use Rattle.macho_placement_rules.specs.steps.Lying.{HasRoom}
use Rattle.macho_placement_rules.proofs.lying.slots_in.Given as goal

abbrev pub invariant-loop-slot : goal.invariant-loop-slot
invariant-loop-slot l = (k : ℕ) (d : Slot) → k < l.slot-index → HasRoom true l.segments DATA_CONST (get_or l.slots k d).address 8
