-- A field as it is read, and what its bytes are to say, by the look-ups.
use Rattle.std.specs.Prelude.{◌≡◌, ℕ, ◌+◌, ◌*◌, ◌-◌, ◌%◌, ◌^◌, ◌<◌, ◌⊎◌, ◌==◌, nat_le, ◌&&◌, not, if◌then◌else◌, Bool, true, false, List, Option, Some, None, is_some, IfSome}
use Rattle.macho_bytes.specs.Numbers.{le_at, bits, signed, page, low}
use Rattle.macho_records.specs.declared.constants.TheConstants.{ARM64_RELOC_UNSIGNED}
use Rattle.macho_wire.specs.declared.relocations.RelocationInfo.{RelocationInfo}
use Rattle.macho_model.specs.declared.placed.Range64.{Range64}
use Rattle.macho_model.specs.declared.targets.Target.{Target}
use Rattle.macho_model.specs.declared.targets.Target.TheVariants as target
use Rattle.macho_model.specs.Objects.{num_sections, section_at, relocation_at}
use Rattle.macho_wire.specs.Relocations.{BitsFit}
use Rattle.macho_model.specs.Segments.{SEGMENT_PAGE}
use Rattle.macho_model.specs.Fixups.{has_room}
use Rattle.macho_fixups.specs.declared.words.FixupKind.{FixupKind}
use Rattle.macho_fixups.specs.declared.words.FixupKind.TheVariants.{Rebase, Bind}
use Rattle.macho_fields.specs.declared.field.Near.{Near}
use Rattle.macho_model.specs.Fields as model
use Rattle.macho_model.specs.Meaning.{address}
use Rattle.macho_model.specs.Stands.{Kind, Pointer, Difference, Branch, Page, Offset, SlotPage, SlotOffset, SlotDistance, NoKind, kind_of}
use Rattle.macho_model.specs.Values.{less, is_absolute_target}
use Rattle.macho_arm64.specs.Laws.{size_for}
use Rattle.macho_fields.specs.declared.kinds.FieldKind.{FieldKind}
use Rattle.macho_fields.specs.declared.kinds.FieldKind.TheVariants as kind
use Rattle.macho_fields.specs.declared.field.Field.{Field}
use Rattle.macho_fields.specs.declared.write.FieldWrite.{FieldWrite}
use Rattle.macho_fields.specs.Looks.{Look, address_in}

-- the kind that the code's word stands for
abbrev pub meaning : FieldKind → Kind
meaning kind.Pointer = Pointer
meaning kind.Difference = Difference
meaning kind.Branch = Branch
meaning kind.Page = Page
meaning kind.Offset = Offset
meaning kind.SlotPage = SlotPage
meaning kind.SlotOffset = SlotOffset
meaning kind.SlotDistance = SlotDistance
meaning kind.Other = NoKind

-- a field as the definitions see it
abbrev pub seen : Field → model.Field
seen f = record {
  relocation = f.relocation;
  offset = f.offset;
  width = f.width;
  type = f.r_type;
  target = f.target;
  subtrahend = f.subtrahend;
  addend = f.addend;
}

abbrev pub kind_in : model.Field → Kind
kind_in f = kind_of f.type (is_some f.subtrahend)

-- the relocation in front of one
abbrev pub before : List ℕ → ℕ → ℕ → Option RelocationInfo
before b k r = if nat_le 1 r then Some (relocation_at b k (r - 1)) else None

-- that relocation, where it is the subtrahend or the addend of a pair
abbrev pub subtractor_in : Option RelocationInfo → RelocationInfo → Option RelocationInfo
subtractor_in None r = None
subtractor_in (Some q) r = if model.is_difference q r then Some q else None

abbrev pub addend_before : Option RelocationInfo → RelocationInfo → Option RelocationInfo
addend_before None r = None
addend_before (Some q) r = if model.is_with_addend q r then Some q else None

-- what a relocation leads to, where it leads anywhere
abbrev pub target_in : Look → ℕ → RelocationInfo → Target
target_in look file r = if r.r_extern then look.target file r.r_symbolnum else target.Section file (r.r_symbolnum - 1) 0

abbrev pub subtrahend_in : Look → ℕ → Option RelocationInfo → Option Target
subtrahend_in look file None = None
subtrahend_in look file (Some q) = Some (target_in look file q)

-- the addend of a field by its content, the address in the input of the section that it names, and the relocation in front
abbrev pub pointer_addend_in : ℕ → ℕ → RelocationInfo → Option RelocationInfo → ℕ
pointer_addend_in content from r None = if r.r_extern then content else (content + (2 ^ 64 - from)) % 2 ^ 64
pointer_addend_in content from r (Some q) = signed (8 * 2 ^ r.r_length) content

abbrev pub small_addend_in : Option RelocationInfo → ℕ
small_addend_in None = 0
small_addend_in (Some q) = signed 24 q.r_symbolnum

abbrev pub addend_in : ℕ → ℕ → RelocationInfo → Option RelocationInfo → ℕ
addend_in content from r q =
    if r.r_type == ARM64_RELOC_UNSIGNED then pointer_addend_in content from r (subtractor_in q r) else small_addend_in (addend_before q r)

-- addresses by the look-ups: of what is called, of what a load reads, and of what is taken off
abbrev pub call_in : Look → Target → ℕ
call_in look (target.Import id) = look.stub id
call_in look t = address_in look t

abbrev pub load_in : Look → Target → ℕ
load_in look (target.Import id) = look.slot (target.Import id)
load_in look t = address_in look t

abbrev pub minus_in : Look → Option Target → ℕ
minus_in look None = 0
minus_in look (Some t) = address_in look t

-- a load of the address of what is in the image becomes an ADD
abbrev pub goes_straight : Target → Bool
goes_straight (target.Import id) = false
goes_straight t = true

abbrev pub relaxes : Kind → Target → Bool
relaxes SlotOffset t = goes_straight t
relaxes Pointer t = false
relaxes Difference t = false
relaxes Branch t = false
relaxes Page t = false
relaxes Offset t = false
relaxes SlotPage t = false
relaxes SlotDistance t = false
relaxes NoKind t = false

-- the value of a field at a place, by its kind; a pointer may count from a start
abbrev pub value_in : Look → ℕ → ℕ → model.Field → Kind → ℕ
value_in look place start f Pointer = less (address_in look f.target + f.addend) start
value_in look place start f Difference = less (address_in look f.target + f.addend) (minus_in look f.subtrahend)
value_in look place start f Branch = less (call_in look f.target + f.addend) place
value_in look place start f Page = less (page (address (address_in look f.target + f.addend))) (page place)
value_in look place start f Offset = low (address (address_in look f.target + f.addend))
value_in look place start f SlotPage = less (page (address (load_in look f.target))) (page place)
value_in look place start f SlotOffset = low (address (load_in look f.target))
value_in look place start f SlotDistance = less (look.slot f.target) place
value_in look place start f NoKind = 0

-- what is written for a field
abbrev pub write_in : Look → ℕ → ℕ → model.Field → Kind → FieldWrite
write_in look place start f kind = record {
  at = f.offset;
  size = size_for kind f.width;
  relax = relaxes kind f.target;
  value = value_in look place start f kind;
}

-- where a pointer counts from: the start of the template where it is an offset in it
abbrev pub start_of : Bool → Option Range64 → ℕ
start_of false template = 0
start_of true None = 0
start_of true (Some r) = r.start

-- a target lies in the template, and a field is an offset in it
abbrev pub in_template : Look → Target → Bool
in_template look (target.Section file section offset) = look.in_template file section
in_template look t = false

-- a pointer that the loader writes, where pointers of the section may be offsets in the template
abbrev pub is_pointer_kind : Kind → Bool
is_pointer_kind Pointer = true
is_pointer_kind kind = false

abbrev pub asks : Bool → Look → model.Field → Bool
asks descriptors look f =
    (f.width == 8) && is_pointer_kind (kind_in f) && not (is_absolute_target f.target) && not (descriptors && in_template look f.target)

-- the value of a fixup, whether a chain word has room for it, and what the word is asked to become
abbrev pub fixup_value : Look → Target → ℕ → ℕ
fixup_value look t addend = (address_in look t + addend) % 2 ^ 64

abbrev pub is_encodable : Look → Target → ℕ → Bool
is_encodable look (target.Import id) addend = true
is_encodable look t addend = nat_le look.base (fixup_value look t addend) && (bits 36 20 (fixup_value look t addend - look.base) == 0)

abbrev pub kind_asked : Look → Target → ℕ → FixupKind
kind_asked look (target.Import id) addend = if has_room addend then Bind id addend else Bind (look.own id addend) 0
kind_asked look t addend = Rebase (fixup_value look t addend - look.base)

abbrev pub fixup_asked : Look → Target → ℕ → Option FixupKind
fixup_asked look t addend = if is_encodable look t addend then Some (kind_asked look t addend) else None

-- a word of the loader may stand at an address: within a page, at a multiple of four
abbrev pub may_stand : ℕ → Bool
may_stand address = nat_le (address % SEGMENT_PAGE + 8) SEGMENT_PAGE && (address % 4 == 0)

-- What was read in front of relocation r of section k, where there is one.
pub record IsInFront (b : List ℕ) (k r : ℕ) (previous : Option RelocationInfo) : Type 0 where
  pub is : previous ≡ before b k r
  pub bits : IfSome previous BitsFit

-- A relocation with the one in front of it.
pub record IsNear (b : List ℕ) (k r : ℕ) (n : Near) : Type 0 where
  pub index : n.index ≡ r
  pub relocation : n.relocation ≡ relocation_at b k r
  pub bits : BitsFit n.relocation
  pub previous : n.previous ≡ before b k r
  pub previous_bits : IfSome n.previous BitsFit

-- A field as it was read, of relocation r of section k.
pub record IsRead (look : Look) (file : ℕ) (b text : List ℕ) (n : Near) (f : Field) : Type 0 where
  pub relocation : f.relocation ≡ n.index
  pub offset : f.offset ≡ n.relocation.r_address
  pub width : f.width ≡ 2 ^ n.relocation.r_length
  pub type : f.r_type ≡ n.relocation.r_type
  pub target : f.target ≡ target_in look file n.relocation
  pub subtrahend : f.subtrahend ≡ subtrahend_in look file (subtractor_in n.previous n.relocation)
  pub addend : (n.relocation.r_length ≡ 2) ⊎ (n.relocation.r_length ≡ 3)
      → ((n.relocation.r_extern ≡ false) → n.relocation.r_symbolnum - 1 < num_sections b)
      → f.addend ≡ addend_in (le_at (2 ^ n.relocation.r_length) text n.relocation.r_address)
      (section_at b (n.relocation.r_symbolnum - 1)).addr n.relocation n.previous
