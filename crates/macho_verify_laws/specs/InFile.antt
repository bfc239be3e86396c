-- What is asked of the bytes of an image alone, without any slide and any choice of import addresses: it decides what memory holds at all
-- of them.
use Rattle.std.specs.Prelude.{◌≡◌, ℕ, ◌+◌, ◌-◌, ◌<◌, ◌≤◌, ◌⊎◌, true, false, List, [], length, get_or, slice_index, All, is_some}
use Rattle.std.specs.FinMap.{empty}
use Rattle.macho_records.specs.Numbers.{le_at}
use Rattle.macho_records.specs.Symbols.{common_size_of}
use Rattle.macho_model.specs.declared.placed.PlacedSection.{PlacedSection}
use Rattle.macho_model.specs.declared.placed.PlacedCommon.{PlacedCommon}
use Rattle.macho_model.specs.declared.placed.Stub.{Stub}
use Rattle.macho_model.specs.declared.targets.Target.{Target}
use Rattle.macho_model.specs.declared.targets.Target.TheVariants as target
use Rattle.macho_model.specs.Objects.{section_bytes}
use Rattle.macho_model.specs.Links.{Link, object_of, header_at}
use Rattle.macho_model.specs.Resolution.{entry_at}
use Rattle.macho_model.specs.Needs.{imports_of, import_library}
use Rattle.macho_model.specs.Fields.{Field, fields_of, content_of}
use Rattle.macho_model.specs.Values.{needs_fixup}
use Rattle.macho_model.specs.Meaning.{Same, GoesThrough}
use Rattle.macho_model.specs.Images.{libraries_of}
use Rattle.macho_model.specs.Placement.{Placed, id_of, common_of}
use Rattle.macho_model.specs.Memory.{IsSegmentByte}
use Rattle.macho_model.specs.ReadBack.{SaysRebase, SaysBind}
use Rattle.macho_model.specs.Stands.{IsAt, SlotAt, Says, kind_of}

-- a number of w bytes that the segments have at an address, before the loader writes anything
pub record IsSegmentNumber (b : List ℕ) (w a n : ℕ) : Type 0 where
  pub text : List ℕ
  pub long : length text ≡ w
  pub bytes : (k : ℕ) → k < w → IsSegmentByte b (a + k) (slice_index text k)
  pub is : n ≡ le_at w text 0

-- an offset of a section is in no field of it
abbrev pub IsInNoField : Link → PlacedSection → ℕ → Type 0
IsInNoField l q i = All (λ f. (i + 1 ≤ f.offset) ⊎ (f.offset + f.width ≤ i)) (fields_of l (id_of q))

-- a byte of a section is the input's; of zerofill it is 0
abbrev pub SectionByteIs : Link → List ℕ → PlacedSection → ℕ → Type 0
SectionByteIs l b q i = IsSegmentByte b (q.address + i) (slice_index (section_bytes (object_of l q.file) q.section) i)

-- The word on the chain at an address leads to a target and an addend: it moves with the image and says the target's address at slide 0; or
-- it binds the import of this name of the library of this name, and the addends of its entry and of the word make up the addend.
abbrev pub WordLeads : Link → List ℕ → Placed → ℕ → Target → ℕ → Type 0
WordLeads l b p a (target.Import id) addend =
    (library : ℕ) × (sum : ℕ) × SaysBind b a library (get_or (imports_of l) id []) sum
    × (get_or (libraries_of b) (library - 1) [] ≡ import_library l (get_or (imports_of l) id [])) × Same sum addend
WordLeads l b p a t addend = (value : ℕ) × (x : ℕ) × SaysRebase b a value × IsAt l p 0 empty t x × Same value (x + addend)

-- A field that the loader doesn't write says its target and addend by its bytes alone.
pub record PlainFieldSays (l : Link) (b : List ℕ) (p : Placed) (q : PlacedSection) (f : Field) : Type 0 where
  pub word : ℕ
  pub stands : IsSegmentNumber b f.width (q.address + f.offset) word
  pub says : Says l p 0 empty (id_of q) f
      (record { place = q.address + f.offset; word = word; input = content_of l (id_of q) f.relocation })
      (kind_of f.type (is_some f.subtrahend))

-- A field says its target and addend.
pub record FieldSays (l : Link) (b : List ℕ) (p : Placed) (q : PlacedSection) (f : Field) : Type 0 where
  pub written : needs_fixup l (id_of q) f ≡ true → WordLeads l b p (q.address + f.offset) f.target f.addend
  pub plain : needs_fixup l (id_of q) f ≡ false → PlainFieldSays l b p q f

-- A stub goes on through the slot of its import.
pub record StubSays (b : List ℕ) (p : Placed) (stub : Stub) : Type 0 where
  pub adrp : ℕ
  pub ldr : ℕ
  pub br : ℕ
  pub has_adrp : IsSegmentNumber b 4 stub.address adrp
  pub has_ldr : IsSegmentNumber b 4 (stub.address + 4) ldr
  pub has_br : IsSegmentNumber b 4 (stub.address + 8) br
  pub slot : ℕ
  pub at : SlotAt p 0 (target.Import stub.import) slot
  pub through : GoesThrough stub.address slot adrp ldr br

-- a byte of a common is 0
abbrev pub CommonByteIs : List ℕ → PlacedCommon → ℕ → Type 0
CommonByteIs b c i = IsSegmentByte b (c.address + i) 0

-- THE image has what its link asks for, as its bytes say.
pub record IsRightInFile (l : Link) (b : List ℕ) (p : Placed) : Type 0 where
  pub bytes : All (λ q. (i : ℕ) → i < (header_at l (id_of q)).size → IsInNoField l q i → SectionByteIs l b q i) p.sections
  pub commons : All (λ c. (i : ℕ) → i < common_size_of (entry_at l (common_of l c.id)) → CommonByteIs b c i) p.commons
  pub fields : All (λ q. All (FieldSays l b p q) (fields_of l (id_of q))) p.sections
  pub slots : All (λ s. WordLeads l b p s.address s.target 0) p.slots
  pub stubs : All (StubSays b p) p.stubs
