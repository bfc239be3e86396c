-- What holds before number k: the first k are those of the plan.
use Rattle.std.proofs.Common.{◌≡◌, ℕ, ◌<◌, get_or}
use Rattle.macho_model.specs.declared.placed.Stub.{Stub}
use Rattle.macho_layout.specs.declared.spec.StubSpec.{StubSpec}
use Rattle.macho_placement_rules.proofs.lists.are_all_stubs.Given as goal

abbrev pub invariant-loop-number : goal.invariant-loop-number
invariant-loop-number l =
    (k : ℕ) (d : Stub) (e : StubSpec) → k < l.number
    → ((get_or l.stubs k d).import ≡ (get_or l.specs k e).import) × ((get_or l.stubs k d).slot ≡ (get_or l.specs k e).slot)
