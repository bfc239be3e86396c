-- When the bytes of a carried section are filled: its input's bytes, with each relocated field set for its target and addend.
-- Fields that the loader writes are left to it.
use Rattle.std.specs.Prelude.{◌≡◌, ℕ, ◌+◌, ◌<◌, false, List, length, slice_index, slice_range, All, is_some}
use Rattle.std.specs.FinMap.{empty}
use Rattle.macho_bytes.specs.Numbers.{le_at}
use Rattle.macho_model.specs.declared.placed.PlacedSection.{PlacedSection}
use Rattle.macho_model.specs.declared.placed.Stub.{Stub}
use Rattle.macho_model.specs.declared.targets.Target.TheVariants as target
use Rattle.macho_model.specs.Objects.{section_bytes}
use Rattle.macho_model.specs.Links.{Link, object_of, header_at}
use Rattle.macho_model.specs.Fields.{Field, fields_of, content_of}
use Rattle.macho_model.specs.Meaning.{GoesThrough}
use Rattle.macho_model.specs.Values.{needs_fixup}
use Rattle.macho_model.specs.WrittenSum.{STUB_SIZE}
use Rattle.macho_model.specs.Placement.{Placed, id_of}
use Rattle.macho_model.specs.Addresses.{offset_in_file}
use Rattle.macho_model.specs.Stands.{Says, kind_of, SlotAt}
use Rattle.macho_model.specs.Spans.{IsOutsideField}

-- a field in a section's bytes says its target and addend, before any slide; one that the loader writes says nothing yet
abbrev pub FieldIsSet : Link → Placed → PlacedSection → List ℕ → Field → Type 0
FieldIsSet l p q text f =
    needs_fixup l (id_of q) f ≡ false
    → Says l p 0 empty (id_of q) f
    (record { place = q.address + f.offset + 0; word = le_at f.width text f.offset; input = content_of l (id_of q) f.relocation })
    (kind_of f.type (is_some f.subtrahend))

-- THE bytes of a placed section.
pub record IsFilled (l : Link) (p : Placed) (q : PlacedSection) (text : List ℕ) : Type 0 where
  pub long : length text ≡ (header_at l (id_of q)).size
  -- outside its fields the input's bytes
  pub rest : (i : ℕ) → i < (header_at l (id_of q)).size → All (IsOutsideField i) (fields_of l (id_of q))
      → slice_index text i ≡ slice_index (section_bytes (object_of l q.file) q.section) i
  -- and each field is set
  pub set : All (FieldIsSet l p q text) (fields_of l (id_of q))

-- the bytes of a file in which a placed section stands
abbrev pub bytes_in_file : List ℕ → Placed → ℕ → ℕ → List ℕ
bytes_in_file b p address size = slice_range b (offset_in_file p address) (offset_in_file p address + size)

-- The three words of a stub go on through the slot of its import, before any slide.
pub record StubIsSet (p : Placed) (stub : Stub) (text : List ℕ) : Type 0 where
  pub long : length text ≡ STUB_SIZE
  pub slot : ℕ
  pub at : SlotAt p 0 (target.Import stub.import) slot
  pub through : GoesThrough stub.address slot (le_at 4 text 0) (le_at 4 text 4) (le_at 4 text 8)
