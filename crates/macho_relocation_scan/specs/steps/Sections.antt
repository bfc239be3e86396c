-- A carried section whose relocations are looked at, by its object's bytes: what its relocations are pointers with, and whether it may
-- hold what the loader writes.
use Rattle.std.specs.Prelude.{◌≡◌, ℕ, ◌+◌, ◌-◌, ◌%◌, ◌^◌, ◌<◌, ◌==◌, ◌&&◌, not, if◌then◌else◌, Bool, true, false, List, length, get_or, filter, Option, Some, None}
use Rattle.std.specs.List.{flat_map}
use Rattle.macho_bytes.specs.Numbers.{le_at}
use Rattle.macho_bytes.specs.Texts.{name_of}
use Rattle.macho_wire.specs.declared.relocations.RelocationInfo.{RelocationInfo}
use Rattle.macho_records.specs.declared.constants.TheConstants.{ARM64_RELOC_UNSIGNED}
use Rattle.macho_model.specs.declared.targets.Target.{Target}
use Rattle.macho_model.specs.Objects.{num_sections, section_at, section_bytes, relocation_at}
use Rattle.macho_model.specs.Links.{Input, Object, Link, SectionId, section_id, no_input, header_at, is_carried, sections_of_file}
use Rattle.macho_model.specs.Uses.{Use, carried_uses}
use Rattle.macho_model.specs.Targets.{is_import}
use Rattle.macho_model.specs.Segments.{may_hold_pointers}
use Rattle.macho_model.specs.Values.{fits_signed, is_absolute_target}
use Rattle.macho_object.specs.Views.{FileBytes, RelocationBytes}
use Rattle.macho_symbol_names.specs.Kept.{FileRows, Keeps}
use Rattle.macho_relocation_scan.specs.declared.findings.Place.{Place}
use Rattle.macho_relocation_scan.specs.declared.findings.Addend.{Addend}
use Rattle.macho_relocation_scan.specs.declared.findings.Findings.{Findings}
use Rattle.macho_relocation_scan.specs.declared.findings.Pair.{Pair}
use Rattle.macho_relocation_scan.specs.declared.pairs.Seen.{Seen}
use Rattle.macho_relocation_scan.specs.declared.section.Section.{Section}
use Rattle.macho_relocation_scan.specs.steps.Found.{first_if, first_of}
use Rattle.macho_relocation_scan.specs.steps.Supported.{supported_in}
use Rattle.macho_relocation_scan.specs.steps.Windows.{window_in, subtracted}

abbrev pub id_of : Section → SectionId
id_of at = section_id at.file at.section

-- a section of an object, with its bytes
pub record IsSectionOf (object : FileBytes) (bytes : List ℕ) (at : Section) : Type 0 where
  pub kind : object.is_dynamic ≡ false
  pub there : at.section < num_sections object.bytes
  pub bytes_are : bytes ≡ section_bytes object.bytes at.section
  pub holds : at.holds_pointers ≡ may_hold_pointers (name_of (section_at object.bytes at.section).segname)

-- its relocations
abbrev pub relocations_of : FileBytes → Section → RelocationBytes
relocations_of object at = record { bytes = object.bytes; section = at.section }

-- the rows of symbols are of inputs of which one is the object
pub record HasRows (files : List FileRows) (file : ℕ) (bytes : List ℕ) : Type 0 where
  pub inputs : List Input
  pub keeps : Keeps inputs files
  pub there : file < length inputs
  pub is : get_or inputs file no_input ≡ Object bytes

-- the address that a pointer to a section counts from
abbrev pub counted_from : List ℕ → RelocationInfo → ℕ
counted_from b rel = (section_at b (rel.r_symbolnum - 1)).addr

-- the addend of a pointer, by its content
abbrev pub addend_by : List ℕ → RelocationInfo → ℕ → ℕ
addend_by b rel content = if rel.r_extern then content else (content + (2 ^ 64 - counted_from b rel)) % 2 ^ 64

-- the addend of a relocation that is a pointer of 8 bytes
abbrev pub is_plain : Seen → Bool
is_plain w = (w.this.r_type == ARM64_RELOC_UNSIGNED) && (w.this.r_length == 3) && not (subtracted w)

abbrev pub pointer_at : List ℕ → ℕ → ℕ → Option ℕ
pointer_at b k r =
    if is_plain (window_in b k r)
    then Some (addend_by b (relocation_at b k r) (le_at 8 (section_bytes b k) (relocation_at b k r).r_address))
    else None

-- a pointer to an import with an addend that doesn't fit
abbrev pub bad_addend : Place → Option ℕ → Target → Option Addend
bad_addend place None t = None
bad_addend place (Some a) t = if is_import t && not (fits_signed 32 a) then Some (record { place = place; addend = a }) else None

-- a pointer that the loader writes, and whose segment may hold none
abbrev pub is_pointer_to : Option ℕ → Target → Bool
is_pointer_to None t = false
is_pointer_to (Some a) t = not (is_absolute_target t)

abbrev pub misplaced : Bool → Option ℕ → Target → Bool
misplaced holds pointer t = is_pointer_to pointer t && not holds

-- what is found once a relocation was looked at
abbrev pub judged : Findings → Bool → Place → Seen → Target → ℕ → Option ℕ → Findings
judged f holds place w t word pointer = record {
  unsupported = first_if (not (supported_in w t word)) f.unsupported place;
  overlap = f.overlap;
  addend = first_of f.addend (bad_addend place pointer t);
  place = first_if (misplaced holds pointer t) f.place place;
}

-- two that overlap, in a section
abbrev pub pair_of : Section → Option (ℕ × ℕ) → Option Pair
pair_of at None = None
pair_of at (Some p) = Some (record { file = at.file; section = at.section; first = p.0; second = p.1 })

-- a file of a link is an object of these bytes
pub record HasObject (l : Link) (file : ℕ) (bytes : List ℕ) : Type 0 where
  pub there : file < length l.inputs
  pub is : get_or l.inputs file no_input ≡ Object bytes

-- a section of an object, and whether it may hold pointers
pub record IsCarriedAt (object : FileBytes) (at : Section) : Type 0 where
  pub kind : object.is_dynamic ≡ false
  pub there : at.section < num_sections object.bytes
  pub carried : is_carried (section_at object.bytes at.section) ≡ true
  pub holds : at.holds_pointers ≡ may_hold_pointers (name_of (section_at object.bytes at.section).segname)

-- the carried ones among some sections, and the uses by them
abbrev pub carried_among : Link → List SectionId → List SectionId
carried_among l ss = filter (λ s. is_carried (header_at l s)) ss

abbrev pub uses_among : Link → List SectionId → List Use
uses_among l ss = flat_map (carried_uses l) (carried_among l ss)

-- the same of some inputs, each with its number
abbrev pub carried_in : Link → List (ℕ × Input) → List SectionId
carried_in l is = carried_among l (flat_map (λ i. sections_of_file i.0 i.1) is)

abbrev pub uses_in : Link → List (ℕ × Input) → List Use
uses_in l is = uses_among l (flat_map (λ i. sections_of_file i.0 i.1) is)

abbrev pub input_at : Link → ℕ → ℕ × Input
input_at l file = (file, get_or l.inputs file no_input)
