-- What filling rests on: that sections and stubs have room in the file, and that they are those of a sound link.
use Rattle.std.specs.Prelude.{◌≡◌, ℕ, ◌+◌, ◌*◌, ◌^◌, ◌<◌, ◌≤◌, ◌⊎◌, true, false, List, [], length, map, get_or, Option, Some, None, All, Contains}
use Rattle.macho_records.specs.Sections.{is_zerofill}
use Rattle.macho_records.specs.declared.header.SectionHeader.{SectionHeader}
use Rattle.macho_model.specs.declared.placed.PlacedSection.{PlacedSection}
use Rattle.macho_model.specs.declared.placed.Stub.{Stub}
use Rattle.macho_model.specs.Objects.{num_sections, num_symbols, section_at}
use Rattle.macho_model.specs.Links.{Link, SectionId, header_at, carried_of}
use Rattle.macho_model.specs.Fields.{fields_of}
use Rattle.macho_model.specs.WrittenSum.{STUB_SIZE}
use Rattle.macho_model.specs.Placement.{Placed, id_of}
use Rattle.macho_model.specs.Addresses.{offset_in_file}
use Rattle.macho_object.specs.Views.{FileBytes}
use Rattle.macho_promise.specs.Views.{views_of}
use Rattle.macho_promise.specs.Sound.{IsSound}
use Rattle.macho_fields.specs.Looks.{Look, Tells, IsFound}
use Rattle.macho_fields.specs.Through.{SlotsAreFound, StubsAreFound}

-- a section that has bytes ends below 2 ^ 64, and its range ends in a file of n bytes; an empty one has no range
pub record HasRoom (p : Placed) (n : ℕ) (q : PlacedSection) (header : SectionHeader) : Type 0 where
  pub low : q.address + header.size ≤ 2 ^ 64
  pub inside : (header.size ≡ 0) ⊎ (offset_in_file p q.address + header.size ≤ n)

-- A placed section is one of a viewed object, and has room.
pub record SectionFits (views : List (Option FileBytes)) (p : Placed) (n : ℕ) (q : PlacedSection) : Type 0 where
  pub file : FileBytes
  pub viewed : get_or views q.file None ≡ Some file
  pub static : file.is_dynamic ≡ false
  pub among : q.section < num_sections file.bytes
  pub room : is_zerofill (section_at file.bytes q.section) ≡ false → HasRoom p n q (section_at file.bytes q.section)

abbrev pub SectionsFit : List (Option FileBytes) → Placed → ℕ → Type 0
SectionsFit views p n = All (SectionFits views p n) p.sections

-- Stubs stand in the file one behind the other, and end in it.
pub record StubsFit (p : Placed) (n : ℕ) : Type 0 where
  pub row : (k : ℕ) (d : Stub) → k < length p.stubs
      → offset_in_file p (get_or p.stubs k d).address ≡ offset_in_file p (get_or p.stubs 0 d).address + STUB_SIZE * k
  pub ends : (d : Stub) → 1 ≤ length p.stubs → offset_in_file p (get_or p.stubs 0 d).address + STUB_SIZE * length p.stubs ≤ n

-- The symbols of viewed objects are known.
pub record AreKnown (views : List (Option FileBytes)) (has_symbol : ℕ → ℕ → Type 0) : Type 0 where
  pub each : (k : ℕ) (f : FileBytes) → get_or views k None ≡ Some f → (s : ℕ) → s < num_symbols f.bytes → has_symbol k s

-- The sections of a placement are those of a sound link, to be filled by these views and look-ups.
pub record AreToFill (l : Link) (p : Placed) (views : List (Option FileBytes)) (look : Look) : Type 0 where
  pub sound : IsSound l
  pub found : IsFound l p
  pub tells : Tells l p look
  pub listed : map id_of p.sections ≡ carried_of l
  pub objects : views ≡ views_of l
  -- zeros have no fields
  pub zeros : (s : SectionId) → Contains (carried_of l) s → is_zerofill (header_at l s) ≡ true → fields_of l s ≡ []

-- And slots and stubs too.
pub record AreAllToFill (l : Link) (p : Placed) (views : List (Option FileBytes)) (look : Look) : Type 0 where
  pub sections : AreToFill l p views look
  pub slots : SlotsAreFound l p
  pub stubs : StubsAreFound p
