-- Slots and stubs: where they stand, and what they lead to.
use Rattle.std.specs.Prelude.{◌≡◌, ℕ, ◌+◌, ◌*◌, ◌<◌, length, get_or}
use Rattle.macho_model.specs.declared.placed.Counts.{Counts}
use Rattle.macho_model.specs.declared.placed.Slot.{Slot}
use Rattle.macho_model.specs.declared.placed.Stub.{Stub}
use Rattle.macho_model.specs.Links.{Link}
use Rattle.macho_model.specs.Placement.{Placed}
use Rattle.macho_model.specs.WrittenSum.{STUB_SIZE}
use Rattle.macho_model.specs.Needs.{POINTER_SIZE}
use Rattle.macho_layout_laws.specs.Laws.{IsWhollyPlaced}
use Rattle.macho_fields.specs.Through.{SlotsAreFound, StubsAreFound}
use Rattle.macho_writing_laws.specs.Premises.{IsSoundlyPlaced}

-- the slots are those of the link, and what they lead to has its place
abbrev pub SlotsStand : Type 0
SlotsStand = (l : Link) (counts : Counts) (p : Placed) → IsSoundlyPlaced l counts p → SlotsAreFound l p

-- the stubs have slots behind them
abbrev pub StubsStand : Type 0
StubsStand = (l : Link) (counts : Counts) (p : Placed) → IsSoundlyPlaced l counts p → StubsAreFound p

-- stubs stand one behind the other, and so do slots
abbrev pub StubsFollow : Type 0
StubsFollow =
    (l : Link) (counts : Counts) (p : Placed) → IsWhollyPlaced l counts p → (k : ℕ) (d : Stub) → k < length p.stubs
    → (get_or p.stubs k d).address ≡ (get_or p.stubs 0 d).address + STUB_SIZE * k

abbrev pub SlotsFollow : Type 0
SlotsFollow =
    (l : Link) (counts : Counts) (p : Placed) → IsWhollyPlaced l counts p → (k : ℕ) (d : Slot) → k < length p.slots
    → (get_or p.slots k d).address ≡ (get_or p.slots 0 d).address + POINTER_SIZE * k
