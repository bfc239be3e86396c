-- What holds before a stub: those before it go on through the slots of their imports.
use Rattle.std.proofs.Common.{ℕ, ◌<◌, get_or}
use Rattle.macho_model.specs.declared.placed.Stub.{Stub}
use Rattle.macho_layout.specs.Placements.{placed_of}
use Rattle.macho_fields.specs.Looks.{TellsAddresses}
use Rattle.macho_fields.specs.Through.{StubsAreFound}
use Rattle.macho_verify_laws.specs.InFile.{StubSays}
use Rattle.macho_image_rules.proofs.stub_walk.first_wrong_stub.Given as goal

abbrev pub invariant-loop-number : goal.invariant-loop-number
invariant-loop-number g l =
    TellsAddresses (placed_of l.placement) (g.P.Places.look l.places) → StubsAreFound (placed_of l.placement) → (k : ℕ) (d : Stub)
    → k < l.number → StubSays l.image (placed_of l.placement) (get_or l.placement.stubs.items k d)
