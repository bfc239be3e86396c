-- The relocated fields of a carried section: where each stands, what it refers to, and what it adds.
use Rattle.std.specs.Prelude.{ℕ, ◌+◌, ◌*◌, ◌-◌, ◌%◌, ◌^◌, ◌==◌, nat_le, ◌&&◌, ◌||◌, not, if◌then◌else◌, Bool, List, map, filter, Option, Some, None}
use Rattle.macho_records.specs.declared.constants.TheConstants.{ARM64_RELOC_ADDEND, ARM64_RELOC_BRANCH26, ARM64_RELOC_PAGE21, ARM64_RELOC_PAGEOFF12, ARM64_RELOC_SUBTRACTOR, ARM64_RELOC_UNSIGNED}
use Rattle.macho_records.specs.Numbers.{le_at, signed}
use Rattle.macho_records.specs.RelocationInfo.{RelocationInfo}
use Rattle.macho_model.specs.declared.targets.Target.{Target}
use Rattle.macho_model.specs.Objects.{section_bytes}
use Rattle.macho_model.specs.Links.{Link, object_of, SectionId, header_at}
use Rattle.macho_model.specs.Needs.{relocation_in, section_named, relocations_of}
use Rattle.macho_model.specs.Targets.{target_of_relocation}

-- A field: its offset in the section, its width in bytes, the type of its relocation, what it refers to, what it
-- subtracts where it is a difference, and its addend as a number modulo 2 ^ 64.
pub record Field : Type 0 where
  pub relocation : ℕ
  pub offset : ℕ
  pub width : ℕ
  pub type : ℕ
  pub target : Target
  pub subtrahend : Option Target
  pub addend : ℕ

-- a relocation's type is one of the two that are part of the field of the relocation behind them
abbrev pub is_prefix_type : ℕ → Bool
is_prefix_type type = (type == ARM64_RELOC_SUBTRACTOR) || (type == ARM64_RELOC_ADDEND)

-- the types that an addend may stand in front of
abbrev pub takes_addend : ℕ → Bool
takes_addend type = (type == ARM64_RELOC_BRANCH26) || (type == ARM64_RELOC_PAGE21) || (type == ARM64_RELOC_PAGEOFF12)

-- A relocation and the next one are a pair: a subtrahend in front of a pointer of its place and length, or an addend in
-- front of a branch, a page or an offset of its place.
abbrev pub is_difference : RelocationInfo → RelocationInfo → Bool
is_difference q r =
    (q.r_type == ARM64_RELOC_SUBTRACTOR) && (r.r_type == ARM64_RELOC_UNSIGNED) && (q.r_address == r.r_address) && (q.r_length == r.r_length)

abbrev pub is_with_addend : RelocationInfo → RelocationInfo → Bool
is_with_addend q r = (q.r_type == ARM64_RELOC_ADDEND) && takes_addend r.r_type && (q.r_address == r.r_address)

abbrev pub is_pair : RelocationInfo → RelocationInfo → Bool
is_pair q r = is_difference q r || is_with_addend q r

-- a relocation is the second one of such a pair
abbrev pub has_subtrahend : Link → SectionId → ℕ → Bool
has_subtrahend l s r = nat_le 1 r && is_difference (relocation_in l s (r - 1)) (relocation_in l s r)

abbrev pub has_addend : Link → SectionId → ℕ → Bool
has_addend l s r = nat_le 1 r && is_with_addend (relocation_in l s (r - 1)) (relocation_in l s r)

-- the bytes of a field's width
abbrev pub width_of : Link → SectionId → ℕ → ℕ
width_of l s r = 2 ^ (relocation_in l s r).r_length

-- the number that the input has in a field
abbrev pub content_of : Link → SectionId → ℕ → ℕ
content_of l s r = le_at (width_of l s r) (section_bytes (object_of l s.file) s.section) (relocation_in l s r).r_address

-- The addend of a pointer: its content; of a difference its content, read as signed; of a pointer to a section by
-- number its content less that section's address in the input.
abbrev pub pointer_addend : Link → SectionId → ℕ → ℕ
pointer_addend l s r =
    if has_subtrahend l s r then signed (8 * width_of l s r) (content_of l s r)
    else if (relocation_in l s r).r_extern then content_of l s r
    else (content_of l s r + (2 ^ 64 - (header_at l (section_named l s r)).addr)) % 2 ^ 64

-- The addend of any field: that of a pointer; the 24 bits of the addend in front of it, read as signed; else 0.
abbrev pub addend_of : Link → SectionId → ℕ → ℕ
addend_of l s r =
    if (relocation_in l s r).r_type == ARM64_RELOC_UNSIGNED then pointer_addend l s r
    else if has_addend l s r then signed 24 (relocation_in l s (r - 1)).r_symbolnum
    else 0

abbrev pub field_of : Link → SectionId → ℕ → Field
field_of l s r = record {
  relocation = r;
  offset = (relocation_in l s r).r_address;
  width = width_of l s r;
  type = (relocation_in l s r).r_type;
  target = target_of_relocation l s r;
  subtrahend = if has_subtrahend l s r then Some (target_of_relocation l s (r - 1)) else None;
  addend = addend_of l s r;
}

-- the fields of a section: one for each relocation that is not part of another one's field
unfoldable pub fields_of : Link → SectionId → List Field
fields_of l s = map (field_of l s) (filter (λ r. not (is_prefix_type (relocation_in l s r).r_type)) (relocations_of l s))
