-- Laws that join fields, stubs and kinds to what they mean in memory and in a link: contracts of functions of `src/laws.rt`.
use Rattle.std.specs.Prelude.{◌≡◌, ℕ, ◌+◌, ◌%◌, ◌^◌, ◌<◌, ◌≤◌, ◌==◌, if◌then◌else◌, Bool, true, false, Some, is_some}
use Rattle.macho_bytes.specs.Numbers.{page, low, PAGE}
use Rattle.macho_records.specs.declared.constants.TheConstants.{ARM64_RELOC_UNSIGNED, ARM64_RELOC_SUBTRACTOR, ARM64_RELOC_TLVP_LOAD_PAGE21, ARM64_RELOC_TLVP_LOAD_PAGEOFF12}
use Rattle.macho_wire.specs.declared.relocations.RelocationInfo.{RelocationInfo}
use Rattle.macho_model.specs.Segments.{SEGMENT_PAGE}
use Rattle.macho_model.specs.Links.{Link, SectionId}
use Rattle.macho_model.specs.Needs.{relocation_in}
use Rattle.macho_model.specs.Fields.{content_of}
use Rattle.macho_model.specs.Words.{is_ldr}
use Rattle.macho_model.specs.Meaning.{Same, address, PointsTo, IsDifference, BranchesTo, PagesTo, OffsetsTo, AddsTo, LoadsFrom, IsDistance, GoesThrough}
use Rattle.macho_model.specs.Rows.{is_supported}
use Rattle.macho_model.specs.Stands as stands
use Rattle.macho_model.specs.Values.{less, fits_signed, branch_reaches, page_reaches, offset_fits}
use Rattle.macho_arm64.specs.declared.kinds.FieldSize.{FieldSize}
use Rattle.macho_arm64.specs.declared.kinds.FieldSize.TheVariants.{Bytes, Adr, JumpCall, Low12}
use Rattle.macho_arm64.specs.declared.kinds.RelocationKind.{RelocationKind}
use Rattle.macho_arm64.specs.declared.kinds.RelocationKind.TheVariants as way
use Rattle.macho_arm64.specs.declared.kinds.RelocationKindInfo.{RelocationKindInfo}
use Rattle.macho_arm64.specs.Kinds.{info_of}
use Rattle.macho_arm64.specs.Fields.{width_of, is_field, fits_word, can_hold, Holds}
use Rattle.macho_arm64.specs.Relaxations.{IsMadeAdd}

-- A field that holds its value denotes its target and addend, at every slide s of whole pages: one fact for each kind of field.
pub record FieldsDenote : Type 0 where
  -- a pointer
  pub pointers : (input word value x : ℕ) → Holds (Bytes 8) input word value → Same value x → PointsTo word x
  -- a pointer that is an offset from a start, which slides too
  pub offsets_from : (input word value start target addend s : ℕ) → Holds (Bytes 8) input word value
      → Same (value + start) (target + addend) → Same (word + (start + s)) (target + s + addend)
  -- a difference, of 4 or 8 bytes
  pub differences : (width input word value subtrahend target addend s : ℕ) → Holds (Bytes width) input word value
      → Same (value + subtrahend) (target + addend) → IsDifference width word (target + s) (subtrahend + s) addend
  -- a branch
  pub branches : (input word value place x s y : ℕ) → Holds JumpCall input word value → Same (value + place) x
      → Same (x + s) y → BranchesTo (place + s) word input y
  -- the page of an ADRP
  pub pages : (input word value place x s y : ℕ) → Holds Adr input word value → Same (value + page (address place)) (page (address x))
      → s % SEGMENT_PAGE ≡ 0 → Same (x + s) y → PagesTo (place + s) word input y
  -- the offset of an ADD, a load or a store
  pub offsets : (input word value x s y : ℕ) → Holds Low12 input word value → value ≡ low (address x)
      → s % SEGMENT_PAGE ≡ 0 → Same (x + s) y → OffsetsTo word input y
  -- a distance of 4 bytes to a slot
  pub distances : (input word value place slot s : ℕ) → Holds (Bytes 4) input word value → Same (value + place) slot
      → IsDistance (place + s) word (slot + s)
  -- the load of a slot
  pub loads : (input word value slot s y : ℕ) → Holds Low12 input word value → is_ldr input ≡ true → value ≡ low (address slot)
      → s % SEGMENT_PAGE ≡ 0 → Same (slot + s) y → LoadsFrom word input y
  -- the load of a slot that was made an ADD
  pub adds : (input add word value x s y : ℕ) → is_ldr input ≡ true → IsMadeAdd input add → Holds Low12 add word value
      → value ≡ low (address x)
      → s % SEGMENT_PAGE ≡ 0 → Same (x + s) y → AddsTo word input y

-- a stub that goes through its slot does so at every slide of whole pages
abbrev pub StubsMove : Type 0
StubsMove =
    (place slot adrp ldr br s : ℕ) → GoesThrough place slot adrp ldr br → s % SEGMENT_PAGE ≡ 0
    → GoesThrough (place + s) (slot + s) adrp ldr br

-- A field can hold its value exactly where the link's definitions say that it reaches its target.
pub record ReachesAgree : Type 0 where
  -- a difference leads from the one address to the other
  pub leads : (x place : ℕ) → Same (less x place + place) x
  pub branches : (word place x : ℕ) → can_hold JumpCall word (less x place) ≡ branch_reaches place x
  pub pages : (word place x : ℕ) → can_hold Adr word (less (page (address x)) (page place)) ≡ page_reaches place x
  pub offsets : (word x : ℕ) → can_hold Low12 word (low (address x)) ≡ offset_fits word x
  -- a difference or a distance of 4 bytes
  pub distances : (word x y : ℕ) → can_hold (Bytes 4) word (less x y) ≡ fits_signed 32 (less x y)
  -- the load of any slot, and what it is made where its target is known
  pub loads : (word slot : ℕ) → is_ldr word ≡ true → slot % 8 ≡ 0 → can_hold Low12 word (low (address slot)) ≡ true
  pub adds : (input word value : ℕ) → IsMadeAdd input word → value < PAGE → can_hold Low12 word value ≡ true
  -- a slot too far behind its stub
  pub stubs : (place slot : ℕ) → page place + 2 ^ 32 ≤ slot → slot + 2 ^ 32 < 2 ^ 64 → page_reaches place slot ≡ false

-- whatever word holds a value, its field can hold it
abbrev pub HoldsOnly : Type 0
HoldsOnly =
    (size : FieldSize) (input word value : ℕ) → is_field size ≡ true → word < 256 ^ width_of size → (size ≡ Low12 → value < PAGE)
    → Holds size input word value → can_hold size input value ≡ true

-- what a field of a kind is written to, where a relocation has so many bytes
abbrev pub size_for : stands.Kind → ℕ → FieldSize
size_for stands.Pointer width = Bytes width
size_for stands.Difference width = Bytes width
size_for stands.Branch width = JumpCall
size_for stands.Page width = Adr
size_for stands.Offset width = Low12
size_for stands.SlotPage width = Adr
size_for stands.SlotOffset width = Low12
size_for stands.SlotDistance width = Bytes width
size_for stands.NoKind width = Bytes 0

-- How the value of a field of a kind comes from its target. A reference to a thread-local variable's slot is known as one
-- to the variable's descriptor, which it is where that is in the image.
abbrev pub way_of : ℕ → stands.Kind → RelocationKind
way_of type stands.Pointer = way.Absolute
way_of type stands.Difference = way.Absolute
way_of type stands.Branch = way.Relative
way_of type stands.Page = way.Relative
way_of type stands.Offset = way.AbsoluteLowPart
way_of type stands.SlotPage = if type == ARM64_RELOC_TLVP_LOAD_PAGE21 then way.Relative else way.GotRelative
way_of type stands.SlotOffset = if type == ARM64_RELOC_TLVP_LOAD_PAGEOFF12 then way.AbsoluteLowPart else way.Got
way_of type stands.SlotDistance = way.GotRelative
way_of type stands.NoKind = if type == ARM64_RELOC_SUBTRACTOR then way.MachoSubtraction else way.MachoAddition

-- a kind that speaks of pages
abbrev pub is_paged : stands.Kind → Bool
is_paged stands.Page = true
is_paged stands.SlotPage = true
is_paged kind = false

-- What is known of a relocation of a type and width agrees with the kind that it has in a link, with a subtrahend or without.
pub record Agrees (info : RelocationKindInfo) (type width : ℕ) : Type 0 where
  pub kind : (subtracted : Bool) → info.kind ≡ way_of type (stands.kind_of type subtracted)
  pub size : (subtracted : Bool) → info.size ≡ size_for (stands.kind_of type subtracted) width
  pub page : (subtracted : Bool) → info.page ≡ is_paged (stands.kind_of type subtracted)
  pub implicit : info.implicit_addend ≡ (type == ARM64_RELOC_UNSIGNED)

abbrev pub KindsAgree : Type 0
KindsAgree = (r : RelocationInfo) (info : RelocationKindInfo) → info_of r ≡ Some info → Agrees info r.r_type (2 ^ r.r_length)

-- a relocation that is supported in a link is known
abbrev pub SupportedIsKnown : Type 0
SupportedIsKnown = (l : Link) (s : SectionId) (r : ℕ) → is_supported l s r ≡ true → is_some (info_of (relocation_in l s r)) ≡ true

-- and the word at its place is one that its field is part of
abbrev pub SupportedFits : Type 0
SupportedFits =
    (l : Link) (s : SectionId) (r : ℕ) (info : RelocationKindInfo) → is_supported l s r ≡ true → info_of (relocation_in l s r) ≡ Some info
    → fits_word info.size (content_of l s r) ≡ true
