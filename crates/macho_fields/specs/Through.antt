-- Stubs that are written one behind the other, and slots that ask for their fixups; and what both rest on.
use Rattle.std.specs.Prelude.{◌≡◌, ℕ, ◌+◌, ◌*◌, ◌%◌, ◌^◌, ◌<◌, false, List, length, map, get_or, slice_range, Contains}
use Rattle.macho_bytes.specs.Numbers.{page}
use Rattle.macho_model.specs.declared.placed.Slot.{Slot}
use Rattle.macho_model.specs.declared.placed.Stub.{Stub}
use Rattle.macho_model.specs.declared.targets.Site.TheVariants as site
use Rattle.macho_model.specs.Links.{Link}
use Rattle.macho_model.specs.Rows.{is_none}
use Rattle.macho_model.specs.Targets.{slots_of}
use Rattle.macho_model.specs.WrittenSum.{STUB_SIZE}
use Rattle.macho_model.specs.Placement.{Placed}
use Rattle.macho_model.specs.Addresses.{address_of}
use Rattle.macho_model.specs.Values.{BadRange, BadRebase}
use Rattle.macho_model.specs.declared.targets.Target.TheVariants as target
use Rattle.macho_promise.specs.Filled.{StubIsSet}
use Rattle.macho_fields.specs.Looks.{IsPlacedOnce, IsThere, HasSlot}

-- The stubs of a placement have slots behind them, and none that is nearly 2 ^ 64 behind a stub's page, where a page's way would reach it
-- from below.
pub record StubsAreFound (p : Placed) : Type 0 where
  pub once : IsPlacedOnce p
  pub slots : (s : Stub) → Contains p.stubs s → HasSlot p (target.Import s.import)
  pub aligned : (s : Slot) → Contains p.slots s → s.address % 8 ≡ 0
  pub behind : (s : Stub) (t : Slot) → Contains p.stubs s → Contains p.slots t → s.address < t.address
  pub low : (s : Stub) (t : Slot) → Contains p.stubs s → Contains p.slots t → t.address + 2 ^ 32 < 2 ^ 64 + page s.address

-- each stub is set, in bytes where one stands behind the other
abbrev pub StubsAreSet : Placed → List Stub → List ℕ → Type 0
StubsAreSet p stubs text =
    (k : ℕ) (d : Stub) → k < length stubs → StubIsSet p (get_or stubs k d) (slice_range text (STUB_SIZE * k) (STUB_SIZE * k + STUB_SIZE))

-- no slot is out of the reach of its stub
pub record NoStubIsFar (l : Link) (p : Placed) : Type 0 where
  pub none : (index : ℕ) → BadRange l p (site.Stub index) → ⊥

-- The slots of a placement are those of the link, and their targets have their places.
pub record SlotsAreFound (l : Link) (p : Placed) : Type 0 where
  pub once : IsPlacedOnce p
  pub targets : map (λ s. s.target) p.slots ≡ slots_of l
  pub there : (s : Slot) → Contains p.slots s → IsThere p s.target
  pub some : (s : Slot) → Contains p.slots s → is_none s.target ≡ false
  pub low : (s : Slot) → Contains p.slots s → address_of p s.target < 2 ^ 64

-- every slot's value has a word
pub record EachSlotFits (l : Link) (p : Placed) : Type 0 where
  pub none : (index : ℕ) → BadRebase l p (site.Slot index) → ⊥
