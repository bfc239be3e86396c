-- When an image stands in memory: every carried section and chosen common whole at its place, every relocated field
-- denoting its target and addend, every slot and stub leading to its target.
use Rattle.std.specs.Prelude.{◌≡◌, ℕ, ◌+◌, ◌%◌, ◌<◌, ◌≤◌, ◌⊎◌, ◌==◌, ◌&&◌, ◌||◌, if◌then◌else◌, Bool, true, false, List, [], get_or, slice_index, Option, Some, None, MatchOption, All, Contains, is_some, ◌^◌}
use Rattle.macho_model.specs.declared.placed.Counts.{Counts}
use Rattle.macho_model.specs.declared.placed.PlacedSection.{PlacedSection}
use Rattle.macho_model.specs.declared.placed.PlacedCommon.{PlacedCommon}
use Rattle.macho_model.specs.declared.placed.Slot.{Slot}
use Rattle.macho_model.specs.declared.placed.Stub.{Stub}
use Rattle.macho_model.specs.declared.placed.Range64.{Range64}
use Rattle.macho_model.specs.declared.targets.Target.{Target}
use Rattle.macho_model.specs.declared.targets.Target.TheVariants as target
use Rattle.macho_records.specs.Numbers.{signed}
use Rattle.macho_records.specs.Sections.{type_of}
use Rattle.macho_records.specs.declared.constants.TheConstants.{ARM64_RELOC_BRANCH26, ARM64_RELOC_GOT_LOAD_PAGE21, ARM64_RELOC_GOT_LOAD_PAGEOFF12, ARM64_RELOC_PAGE21, ARM64_RELOC_PAGEOFF12, ARM64_RELOC_POINTER_TO_GOT, ARM64_RELOC_TLVP_LOAD_PAGE21, ARM64_RELOC_TLVP_LOAD_PAGEOFF12, ARM64_RELOC_UNSIGNED, S_THREAD_LOCAL_VARIABLES}
use Rattle.macho_records.specs.Symbols.{common_size_of}
use Rattle.macho_model.specs.Objects.{section_bytes}
use Rattle.macho_model.specs.Links.{Link, object_of, SectionId, section_id, header_at, is_template}
use Rattle.macho_model.specs.Resolution.{entry_at}
use Rattle.macho_model.specs.Needs.{imports_of, import_library}
use Rattle.macho_model.specs.Fields.{Field, fields_of, content_of}
use Rattle.macho_model.specs.Meaning.{Same, IsDifference, BranchesTo, PagesTo, OffsetsTo, AddsTo, LoadsFrom, GoesThrough}
use Rattle.macho_model.specs.Segments.{SEGMENT_PAGE}
use Rattle.macho_model.specs.Placement.{Placed, id_of, common_of, IsPlaced}
use Rattle.macho_model.specs.Loader.{IsAccepted}
use Rattle.macho_model.specs.Memory.{Choice, chosen, BindsAll, Holds, HoldsNumber}
use Rattle.macho_model.specs.Images.{mapped_segments}

-- a section's place: its placed address
abbrev pub SectionAt : Placed → ℕ → ℕ → ℕ → Type 0
SectionAt p file section address =
    (q : PlacedSection) × Contains p.sections q × (q.file ≡ file) × (q.section ≡ section) × (q.address ≡ address)

-- Where a target is, at a slide and for a choice of import addresses. What has no place is nowhere.
abbrev pub IsAt : Link → Placed → ℕ → Choice → Target → ℕ → Type 0
IsAt l p s choice (target.Section file section offset) x = (address : ℕ) × SectionAt p file section address × (x ≡ address + offset + s)
IsAt l p s choice (target.Common id) x = (c : PlacedCommon) × Contains p.commons c × (c.id ≡ id) × (x ≡ c.address + s)
IsAt l p s choice (target.Import id) x =
    chosen choice (import_library l (get_or (imports_of l) id [])) (get_or (imports_of l) id []) ≡ Some x
IsAt l p s choice target.Base x = x ≡ p.base + s
IsAt l p s choice (target.Absolute value) x = x ≡ value
IsAt l p s choice target.None x = ⊥

-- the slot of a target, in memory
abbrev pub SlotAt : Placed → ℕ → Target → ℕ → Type 0
SlotAt p s t x = (slot : Slot) × Contains p.slots slot × (slot.target ≡ t) × (x ≡ slot.address + s)

-- where a call of a target goes: to an import by its stub
abbrev pub CallIsAt : Link → Placed → ℕ → Choice → Target → ℕ → Type 0
CallIsAt l p s choice (target.Import id) x = (stub : Stub) × Contains p.stubs stub × (stub.import ≡ id) × (x ≡ stub.address + s)
CallIsAt l p s choice t x = IsAt l p s choice t x

-- What a relocated field is, by the type of its relocation.
pub data Kind : Type 0 where
  Pointer Difference Branch Page Offset SlotPage SlotOffset SlotDistance NoKind : Kind

abbrev pub kind_of : ℕ → Bool → Kind
kind_of type has_subtrahend =
    if type == ARM64_RELOC_UNSIGNED then (if has_subtrahend then Difference else Pointer)
    else if type == ARM64_RELOC_BRANCH26 then Branch
    else if type == ARM64_RELOC_PAGE21 then Page
    else if type == ARM64_RELOC_PAGEOFF12 then Offset
    else if (type == ARM64_RELOC_GOT_LOAD_PAGE21) || (type == ARM64_RELOC_TLVP_LOAD_PAGE21) then SlotPage
    else if (type == ARM64_RELOC_GOT_LOAD_PAGEOFF12) || (type == ARM64_RELOC_TLVP_LOAD_PAGEOFF12) then SlotOffset
    else if type == ARM64_RELOC_POINTER_TO_GOT then SlotDistance
    else NoKind

-- a target lies in the thread-local template
abbrev pub is_in_template : Link → Target → Bool
is_in_template l (target.Section file section offset) = is_template (header_at l (section_id file section))
is_in_template l t = false

-- a pointer in a descriptor of a thread-local variable to its initial value is an offset from the template's start
abbrev pub is_template_offset : Link → SectionId → Field → Bool
is_template_offset l id f = (type_of (header_at l id) == S_THREAD_LOCAL_VARIABLES) && is_in_template l f.target

abbrev pub PointerSays : Bool → Option Range64 → ℕ → ℕ → ℕ → Type 0
PointerSays false template s word x = Same word x
PointerSays true None s word x = ⊥
PointerSays true (Some r) s word x = Same (word + (r.start + s)) x

-- a load of a target's address: of an import from its slot, else made an ADD of the address itself; of a value that does not
-- move there is none
abbrev pub LoadSays : Link → Placed → ℕ → Choice → Target → ℕ → ℕ → Type 0
LoadSays l p s choice (target.Import id) word input = (slot : ℕ) × SlotAt p s (target.Import id) slot × LoadsFrom word input slot
LoadSays l p s choice (target.Absolute value) word input = ⊥
LoadSays l p s choice t word input = (x : ℕ) × IsAt l p s choice t x × AddsTo word input x

-- the address whose page such a load begins with: that of the slot, or of the target itself
abbrev pub LoadIsAt : Link → Placed → ℕ → Choice → Target → ℕ → Type 0
LoadIsAt l p s choice (target.Import id) x = SlotAt p s (target.Import id) x
LoadIsAt l p s choice (target.Absolute value) x = ⊥
LoadIsAt l p s choice t x = IsAt l p s choice t x

-- where the subtrahend of a difference is
abbrev pub SubtrahendIsAt : Link → Placed → ℕ → Choice → Option Target → ℕ → Type 0
SubtrahendIsAt l p s choice subtrahend x = MatchOption subtrahend ⊥ (λ t. IsAt l p s choice t x)

-- What is seen of a field: its place in memory, the word that is there, and the one that the input has.
pub record Seen : Type 0 where
  pub place : ℕ
  pub word : ℕ
  pub input : ℕ

-- What a field says, by its kind. A pointer has 8 bytes, a distance to a slot is a signed number of 4.
abbrev pub Says : Link → Placed → ℕ → Choice → SectionId → Field → Seen → Kind → Type 0
Says l p s choice id f seen Pointer =
    (x : ℕ) × IsAt l p s choice f.target x × PointerSays (is_template_offset l id f) p.template s seen.word (x + f.addend) × (f.width ≡ 8)
Says l p s choice id f seen Difference =
    (x : ℕ) × (y : ℕ) × IsAt l p s choice f.target x × SubtrahendIsAt l p s choice f.subtrahend y
    × IsDifference f.width seen.word x y f.addend
Says l p s choice id f seen Branch = (x : ℕ) × CallIsAt l p s choice f.target x × BranchesTo seen.place seen.word seen.input (x + f.addend)
Says l p s choice id f seen Page = (x : ℕ) × IsAt l p s choice f.target x × PagesTo seen.place seen.word seen.input (x + f.addend)
Says l p s choice id f seen Offset = (x : ℕ) × IsAt l p s choice f.target x × OffsetsTo seen.word seen.input (x + f.addend)
Says l p s choice id f seen SlotPage = (x : ℕ) × LoadIsAt l p s choice f.target x × PagesTo seen.place seen.word seen.input x
Says l p s choice id f seen SlotOffset = LoadSays l p s choice f.target seen.word seen.input
Says l p s choice id f seen SlotDistance = (slot : ℕ) × SlotAt p s f.target slot × Same (seen.place + signed 32 seen.word) slot
Says l p s choice id f seen NoKind = ⊥

-- A field of a placed section denotes its target and addend in memory.
pub record Denotes (l : Link) (b : List ℕ) (p : Placed) (s : ℕ) (choice : Choice) (q : PlacedSection) (f : Field) : Type 0 where
  pub word : ℕ
  pub held : HoldsNumber b s choice f.width (q.address + f.offset + s) word
  pub says : Says l p s choice (id_of q) f
      (record { place = q.address + f.offset + s; word = word; input = content_of l (id_of q) f.relocation })
      (kind_of f.type (is_some f.subtrahend))

-- A carried section stands: outside its fields its input's bytes, zeros for zerofill; and each field denotes.
pub record SectionStands (l : Link) (b : List ℕ) (p : Placed) (s : ℕ) (choice : Choice) (q : PlacedSection) : Type 0 where
  pub bytes : (i : ℕ) → i < (header_at l (id_of q)).size → All (λ f. (i + 1 ≤ f.offset) ⊎ (f.offset + f.width ≤ i)) (fields_of l (id_of q))
      → Holds b s choice (q.address + i + s) (slice_index (section_bytes (object_of l q.file) q.section) i)
  pub fields : All (Denotes l b p s choice q) (fields_of l (id_of q))

-- a slot holds the address of its target
pub record SlotStands (l : Link) (b : List ℕ) (p : Placed) (s : ℕ) (choice : Choice) (slot : Slot) : Type 0 where
  pub word : ℕ
  pub held : HoldsNumber b s choice 8 (slot.address + s) word
  pub x : ℕ
  pub at : IsAt l p s choice slot.target x
  pub points : Same word x

-- a stub goes on through the slot of its import
pub record StubStands (b : List ℕ) (p : Placed) (s : ℕ) (choice : Choice) (stub : Stub) : Type 0 where
  pub adrp : ℕ
  pub ldr : ℕ
  pub br : ℕ
  pub held_adrp : HoldsNumber b s choice 4 (stub.address + s) adrp
  pub held_ldr : HoldsNumber b s choice 4 (stub.address + 4 + s) ldr
  pub held_br : HoldsNumber b s choice 4 (stub.address + 8 + s) br
  pub slot : ℕ
  pub at : SlotAt p s (target.Import stub.import) slot
  pub through : GoesThrough (stub.address + s) slot adrp ldr br

-- THE image stands, at a slide and for a choice of import addresses.
pub record ImageStands (l : Link) (b : List ℕ) (p : Placed) (s : ℕ) (choice : Choice) : Type 0 where
  -- each carried section has its input's bytes outside its fields, and each field denotes
  pub sections : All (SectionStands l b p s choice) p.sections
  -- a chosen common is zeros over its size
  pub commons : All (λ c. (i : ℕ) → i < common_size_of (entry_at l (common_of l c.id)) → Holds b s choice (c.address + i + s) 0) p.commons
  -- each slot holds its target's address
  pub slots : All (SlotStands l b p s choice) p.slots
  -- each stub goes on through its slot
  pub stubs : All (StubStands b p s choice) p.stubs

-- THE promise of a link: its parts are placed, the loader accepts the bytes, and at every slide of whole pages by which no mapped segment
-- passes 2 ^ 64, for every choice that binds all imports, the image stands.
pub record IsLoadable (l : Link) (counts : Counts) (b : List ℕ) (p : Placed) : Type 0 where
  pub placed : IsPlaced l counts p
  pub accepted : IsAccepted b
  pub stands : (s : ℕ) (choice : Choice) → s % SEGMENT_PAGE ≡ 0 → All (λ t. t.vmaddr + t.vmsize + s ≤ 2 ^ 64) (mapped_segments b)
      → BindsAll b choice → ImageStands l b p s choice
