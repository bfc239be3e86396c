-- Stubs and slots while they are filled, by the look-ups alone.
use Rattle.std.specs.Prelude.{◌≡◌, ℕ, ◌+◌, ◌*◌, ◌%◌, ◌<◌, ◌≤◌, ◌⊎◌, false, true, List, ◌++◌, length, get_or, map, take}
use Rattle.macho_bytes.specs.Numbers.{le_at, page}
use Rattle.macho_bytes.specs.Texts.{Stands}
use Rattle.macho_model.specs.declared.placed.Slot.{Slot}
use Rattle.macho_model.specs.declared.placed.Stub.{Stub}
use Rattle.macho_model.specs.declared.targets.Site.{Site}
use Rattle.macho_model.specs.declared.targets.Site.TheVariants as site
use Rattle.macho_model.specs.declared.targets.Target.TheVariants as target
use Rattle.macho_model.specs.Meaning.{GoesThrough}
use Rattle.macho_fixups.specs.declared.run.Fixup.{Fixup}
use Rattle.macho_arm64.specs.Stubs.{STUB_SIZE, ADRP_REACH}
use Rattle.macho_fields.specs.declared.fault.FillFault.{FillFault}
use Rattle.macho_fields.specs.declared.fault.FillFault.TheVariants.{Range, Rebase, Place, Unsupported, OutOfMemory}
use Rattle.macho_fields.specs.Looks.{Look}
use Rattle.macho_fields.specs.steps.Fields.{is_encodable, kind_asked}

-- the slot of a stub, by the look-ups
abbrev pub slot_in : Look → Stub → ℕ
slot_in look s = look.slot (target.Import s.import)

-- the slot is in front of the stub, or 4 GiB behind its page
abbrev pub IsOutOfReach : Look → Stub → Type 0
IsOutOfReach look s = (slot_in look s ≤ s.address) ⊎ (page s.address + ADRP_REACH ≤ slot_in look s)

-- The words of a stub go through its slot, which is in reach.
pub record IsThrough (look : Look) (s : Stub) (text : List ℕ) : Type 0 where
  pub long : length text ≡ STUB_SIZE
  pub through : GoesThrough s.address (slot_in look s) (le_at 4 text 0) (le_at 4 text 4) (le_at 4 text 8)
  pub near : IsOutOfReach look s → ⊥

abbrev pub IsNoStub : Look → Stub → ℕ → FillFault → Type 0
IsNoStub look s index (Range at) = (at ≡ site.Stub index) × IsOutOfReach look s
IsNoStub look s index Unsupported = slot_in look s % 8 ≡ 0 → ⊥
IsNoStub look s index (Rebase at) = ⊥
IsNoStub look s index (Place file section relocation) = ⊥
IsNoStub look s index OutOfMemory = ⊥

-- the first stubs stand one behind the other
pub record IsStubAt (look : Look) (s : Stub) (k : ℕ) (out : List ℕ) : Type 0 where
  pub text : List ℕ
  pub stands : Stands out (record { at = STUB_SIZE * k; text = text })
  pub is : IsThrough look s text

abbrev pub StubsStand : Look → List Stub → ℕ → List ℕ → Type 0
StubsStand look stubs n out = (k : ℕ) (d : Stub) → k < n → IsStubAt look (get_or stubs k d) k out

-- some stub's slot is out of its reach
pub record IsSomeStub (look : Look) (stubs : List Stub) (fault : FillFault) : Type 0 where
  pub number : ℕ
  pub among : number < length stubs
  pub is : (d : Stub) → IsNoStub look (get_or stubs number d) number fault

-- a slot's fixup, by the look-ups
abbrev pub slot_asked : Look → Slot → Fixup
slot_asked look s = record { address = s.address; kind = kind_asked look s.target 0 }

-- the first slots are asked for
pub record SlotsAsked (look : Look) (slots : List Slot) (n : ℕ) (old new : List Fixup) : Type 0 where
  pub fit : (k : ℕ) (d : Slot) → k < n → is_encodable look (get_or slots k d).target 0 ≡ true
  pub run : new ≡ old ++ map (slot_asked look) (take n slots)

-- some slot has no word
pub record IsSomeSlot (look : Look) (slots : List Slot) (at : Site) : Type 0 where
  pub number : ℕ
  pub among : number < length slots
  pub told : at ≡ site.Slot number
  pub unfit : (d : Slot) → is_encodable look (get_or slots number d).target 0 ≡ false

abbrev pub CannotAskSlot : Look → List Slot → FillFault → Type 0
CannotAskSlot look slots (Rebase at) = IsSomeSlot look slots at
CannotAskSlot look slots (Range at) = ⊥
CannotAskSlot look slots Unsupported = ⊥
CannotAskSlot look slots (Place file section relocation) = ⊥
CannotAskSlot look slots OutOfMemory = Unit {0}
