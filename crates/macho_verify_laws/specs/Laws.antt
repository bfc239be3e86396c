-- Laws by which the bytes of an image decide what its memory holds at every load. Each is the contract of a function of `src/`.
use Rattle.std.specs.Prelude.{◌≡◌, ℕ, ◌+◌, ◌<◌, ◌^◌, List, Some, Contains, slice_index}
use Rattle.macho_records.specs.Symbols.{common_size_of}
use Rattle.macho_model.specs.declared.placed.Counts.{Counts}
use Rattle.macho_model.specs.declared.placed.PlacedSection.{PlacedSection}
use Rattle.macho_model.specs.declared.placed.PlacedCommon.{PlacedCommon}
use Rattle.macho_model.specs.declared.placed.Slot.{Slot}
use Rattle.macho_model.specs.declared.placed.Stub.{Stub}
use Rattle.macho_model.specs.Objects.{section_bytes}
use Rattle.macho_model.specs.Links.{Link, object_of, header_at}
use Rattle.macho_model.specs.Resolution.{entry_at}
use Rattle.macho_model.specs.Fields.{Field, fields_of}
use Rattle.macho_model.specs.Placement.{Placed, id_of, common_of, IsPlaced}
use Rattle.macho_model.specs.Loader.{IsAccepted}
use Rattle.macho_model.specs.Memory.{Choice, chosen, BindsAll, Holds, IsSegmentByte}
use Rattle.macho_model.specs.HeldLaws.{IsFree}
use Rattle.macho_model.specs.Fixups.{ChainIsWhole}
use Rattle.macho_model.specs.Stands.{Denotes, SlotStands, StubStands, ImageStands}
use Rattle.macho_promise.specs.Sound.{IsSound}
use Rattle.macho_fields.specs.Looks.{IsFound}
use Rattle.macho_fields.specs.Laws.{ObjectsAreWhole}
use Rattle.macho_image_laws.specs.Leads.{PersonalitiesFit}
use Rattle.macho_verify_laws.specs.Loads.{BindsImports, Always, Fails}
use Rattle.macho_verify_laws.specs.InFile.{IsInNoField, SectionByteIs, CommonByteIs, FieldSays, WordLeads, StubSays, IsRightInFile}

-- What is known where the bytes are asked: a sound link of objects that keep their rules, whose personality functions are defined or
-- imported, in a placement of it, an accepted image, and chains that hold exactly the words that the link needs.
pub record IsAsked (l : Link) (counts : Counts) (b : List ℕ) (p : Placed) : Type 0 where
  pub objects : ObjectsAreWhole l
  pub sound : IsSound l
  pub personalities : PersonalitiesFit l
  pub placed : IsPlaced l counts p
  pub found : IsFound l p
  pub accepted : IsAccepted b
  pub whole : ChainIsWhole l b p

-- At one address memory has one byte.
abbrev pub MemoryIsOne : Type 0
MemoryIsOne =
    (b : List ℕ) (s : ℕ) (choice : Choice) (x v w : ℕ) → IsAccepted b → Holds b s choice x v → Holds b s choice x w → v ≡ w

-- Any addresses may be chosen: for each function of a library's name and a name there is a choice that has its value for all imports of a
-- link and of an accepted image.
abbrev pub ChoicesExist : Type 0
ChoicesExist =
    (l : Link) (b : List ℕ) (f : List ℕ → List ℕ → ℕ) → ((library name : List ℕ) → f library name < 2 ^ 64)
    → (choice : Choice) × BindsAll b choice × BindsImports l choice
    × ((library name : List ℕ) (x : ℕ) → chosen choice library name ≡ Some x → x ≡ f library name)

-- Where no chain word has it, a byte of the segments is held at every load, and another one at none.
abbrev pub BytesDecide : Type 0
BytesDecide =
    (l : Link) (b : List ℕ) (a v : ℕ) → IsAccepted b → IsFree b a 1
    → (IsSegmentByte b a v → Always l b (λ s choice. Holds b s choice (a + s) v))
    × ((IsSegmentByte b a v → ⊥) → Fails l b (λ s choice. Holds b s choice (a + s) v))

-- The bytes of a section outside its fields, and those of commons, are in no chain word; so they are decided by those of the segments.
abbrev pub SectionBytesDecide : Type 0
SectionBytesDecide =
    (l : Link) (counts : Counts) (b : List ℕ) (p : Placed) (q : PlacedSection) (i : ℕ) → IsAsked l counts b p → Contains p.sections q
    → i < (header_at l (id_of q)).size → IsInNoField l q i
    → (SectionByteIs l b q i
    → Always l b (λ s choice. Holds b s choice (q.address + i + s) (slice_index (section_bytes (object_of l q.file) q.section) i)))
    × ((SectionByteIs l b q i → ⊥)
    → Fails l b (λ s choice. Holds b s choice (q.address + i + s) (slice_index (section_bytes (object_of l q.file) q.section) i)))

abbrev pub CommonBytesDecide : Type 0
CommonBytesDecide =
    (l : Link) (counts : Counts) (b : List ℕ) (p : Placed) (c : PlacedCommon) (i : ℕ) → IsAsked l counts b p → Contains p.commons c
    → i < common_size_of (entry_at l (common_of l c.id))
    → (CommonByteIs b c i → Always l b (λ s choice. Holds b s choice (c.address + i + s) 0))
    × ((CommonByteIs b c i → ⊥) → Fails l b (λ s choice. Holds b s choice (c.address + i + s) 0))

-- Fields, slots and stubs are decided by what the file says of them.
abbrev pub FieldsDecide : Type 0
FieldsDecide =
    (l : Link) (counts : Counts) (b : List ℕ) (p : Placed) (q : PlacedSection) (f : Field) → IsAsked l counts b p → Contains p.sections q
    → Contains (fields_of l (id_of q)) f
    → (FieldSays l b p q f → Always l b (λ s choice. Denotes l b p s choice q f))
    × ((FieldSays l b p q f → ⊥) → Fails l b (λ s choice. Denotes l b p s choice q f))

abbrev pub SlotsDecide : Type 0
SlotsDecide =
    (l : Link) (counts : Counts) (b : List ℕ) (p : Placed) (slot : Slot) → IsAsked l counts b p → Contains p.slots slot
    → (WordLeads l b p slot.address slot.target 0 → Always l b (λ s choice. SlotStands l b p s choice slot))
    × ((WordLeads l b p slot.address slot.target 0 → ⊥) → Fails l b (λ s choice. SlotStands l b p s choice slot))

abbrev pub StubsDecide : Type 0
StubsDecide =
    (l : Link) (counts : Counts) (b : List ℕ) (p : Placed) (stub : Stub) → IsAsked l counts b p → Contains p.stubs stub
    → (StubSays b p stub → Always l b (λ s choice. StubStands b p s choice stub))
    × ((StubSays b p stub → ⊥) → Fails l b (λ s choice. StubStands b p s choice stub))

-- THE law: an image that is right by its bytes stands at every load. (Each part that is not right misses at some load, by the laws above.)
abbrev pub FileDecides : Type 0
FileDecides =
    (l : Link) (counts : Counts) (b : List ℕ) (p : Placed) → IsAsked l counts b p
    → (IsRightInFile l b p → Always l b (ImageStands l b p))
