-- What holds before number k: the first k lie in the segment.
use Rattle.std.proofs.Common.{ℕ, ◌<◌, true, get_or}
use Rattle.macho_model.specs.declared.placed.Stub.{Stub}
use Rattle.macho_model.specs.Segments.{TEXT}
use Rattle.macho_placement_rules.specs.steps.Lying.{HasRoom}
use Rattle.macho_placement_rules.proofs.lying.stubs_in.Given as goal

abbrev pub invariant-loop-stub : goal.invariant-loop-stub
invariant-loop-stub l = (k : ℕ) (d : Stub) → k < l.stub-index → HasRoom true l.segments TEXT (get_or l.stubs k d).address 12
