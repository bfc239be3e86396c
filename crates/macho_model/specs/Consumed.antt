-- Sections that are read and turned into parts of the image: initializers, and compact unwind entries
-- (`mach-o/compact_unwind_encoding.h`). A test for each rule that they keep.
use Rattle.std.specs.Prelude.{ℕ, ◌+◌, ◌*◌, ◌/◌, ◌%◌, ◌==◌, nat_le, nat_lt, ◌&&◌, ◌||◌, not, Bool, true, false, List, length, filter, map, bytes_eq, [], ◌∷◌}
use Rattle.std.specs.List.{list_any, list_all, flat_map, range_with_len}
use Rattle.macho_records.specs.Numbers.{le_at, bits}
use Rattle.macho_records.specs.ByteLayouts.{reading}
use Rattle.macho_records.specs.CommandLayouts.{unwind_info_entry}
use Rattle.macho_records.specs.UnwindInfoEntry.{UnwindInfoEntry}
use Rattle.macho_records.specs.RelocationInfo.{RelocationInfo}
use Rattle.macho_model.specs.declared.rules.UnwindRule.{UnwindRule}
use Rattle.macho_model.specs.declared.rules.UnwindRule.TheVariants.{U1, U2, U3, U4, U5, U6, U7, U8}
use Rattle.macho_model.specs.declared.targets.Target.{Target}
use Rattle.macho_model.specs.declared.targets.Target.TheVariants as target
use Rattle.macho_records.specs.Sections.{has_instructions, is_zerofill, segment_name_of, type_of}
use Rattle.macho_records.specs.declared.constants.TheConstants.{ARM64_RELOC_UNSIGNED, S_MOD_INIT_FUNC_POINTERS}
use Rattle.macho_model.specs.Objects.{section_bytes}
use Rattle.macho_model.specs.Links.{Link, object_of, SectionId, header_at, is_carried}
use Rattle.macho_model.specs.Needs.{relocation_in, section_named, relocations_of, relocations_at, unwind_sections, personality_relocations, distinct, POINTER_SIZE, UNWIND_ENTRY_SIZE, PERSONALITY_PLACE}
use Rattle.macho_model.specs.Targets.{target_of_relocation, targets_at, is_defined, is_import, same_target}
use Rattle.macho_model.specs.Segments.{TEXT}

abbrev pub bytes_of_section : Link → SectionId → List ℕ
bytes_of_section l s = section_bytes (object_of l s.file) s.section

-- a plain pointer of 8 bytes
abbrev pub is_plain_pointer : RelocationInfo → Bool
is_plain_pointer rel = (rel.r_type == ARM64_RELOC_UNSIGNED) && (rel.r_length == 3) && not rel.r_pcrel

abbrev pub is_section_target : Target → Bool
is_section_target (target.Section file section offset) = true
is_section_target t = false

-- a slot has exactly one relocation, at its start, a plain pointer to a symbol in a carried section, and its content is 0
abbrev pub initializer_slot_fits : Link → SectionId → ℕ → Bool
initializer_slot_fits l s slot =
    (length (relocations_at l s (POINTER_SIZE * slot)) == 1)
    && list_all (λ r. is_plain_pointer (relocation_in l s r) && (relocation_in l s r).r_extern
    && is_section_target (target_of_relocation l s r)) (relocations_at l s (POINTER_SIZE * slot))
    && (le_at POINTER_SIZE (bytes_of_section l s) (POINTER_SIZE * slot) == 0)

abbrev pub initializer_section_fits : Link → SectionId → Bool
initializer_section_fits l s = (type_of (header_at l s) == S_MOD_INIT_FUNC_POINTERS) && ((header_at l s).size % POINTER_SIZE == 0)

-- the places of two of an entry's three addresses; the third is `PERSONALITY_PLACE`
abbrev pub START_PLACE : ℕ
START_PLACE = 0

abbrev pub LSDA_PLACE : ℕ
LSDA_PLACE = 24

-- all three
abbrev pub ADDRESS_PLACES : List ℕ
ADDRESS_PLACES = START_PLACE ∷ PERSONALITY_PLACE ∷ LSDA_PLACE ∷ []

-- an unwind entry of a section, by number
abbrev pub unwind_entry : Link → SectionId → ℕ → UnwindInfoEntry
unwind_entry l s e = reading unwind_info_entry (bytes_of_section l s) (UNWIND_ENTRY_SIZE * e)

abbrev pub entry_count : Link → SectionId → ℕ
entry_count l s = (header_at l s).size / UNWIND_ENTRY_SIZE

-- the relocations of an address of an entry
abbrev pub relocations_in_entry : Link → SectionId → ℕ → ℕ → List ℕ
relocations_in_entry l s e place = relocations_at l s (UNWIND_ENTRY_SIZE * e + place)

-- the section is made of whole entries
abbrev pub whole_entries : Link → SectionId → Bool
whole_entries l s = (header_at l s).size % UNWIND_ENTRY_SIZE == 0

-- a section that functions stand in
abbrev pub holds_functions : Link → SectionId → Bool
holds_functions l f =
    is_carried (header_at l f) && has_instructions (header_at l f).flags && bytes_eq (segment_name_of (header_at l f)) TEXT
    && not (is_zerofill (header_at l f))

-- an address of the input lies in a section, with so many bytes from it on
abbrev pub lies_in : Link → SectionId → ℕ → ℕ → Bool
lies_in l f address size =
    nat_le (header_at l f).addr address && nat_lt address ((header_at l f).addr + (header_at l f).size)
    && nat_le (address + size) ((header_at l f).addr + (header_at l f).size)

-- the relocations of an entry's start that name a section
abbrev pub starts_in : Link → SectionId → ℕ → List ℕ
starts_in l s e = filter (λ r. not (relocation_in l s r).r_extern) (relocations_in_entry l s e START_PLACE)

-- An entry, by its section and number.
pub record EntryId : Type 0 where
  pub of_section : SectionId
  pub entry : ℕ

unfoldable pub entries_of_link : Link → List EntryId
entries_of_link l = flat_map (λ s. map (λ e. record { of_section = s; entry = e }) (range_with_len 0 (entry_count l s))) (unwind_sections l)

abbrev pub same_section : SectionId → SectionId → Bool
same_section f g = (f.file == g.file) && (f.section == g.section)

-- two entries are of functions that begin at one place
abbrev pub same_start : Link → EntryId → EntryId → Bool
same_start l d e =
    list_any (λ q. list_any (λ r. same_section (section_named l d.of_section q) (section_named l e.of_section r))
    (starts_in l e.of_section e.entry)) (starts_in l d.of_section d.entry)
    && ((unwind_entry l d.of_section d.entry).start == (unwind_entry l e.of_section e.entry).start)

-- An entry of a section, by number, keeps a rule.
abbrev pub keeps : Link → SectionId → ℕ → UnwindRule → Bool
-- the section is made of whole entries
keeps l s e U1 = whole_entries l s
-- a relocation whose place is in the entry is a plain pointer at one of its addresses
keeps l s e U2 =
    list_all (λ r. is_plain_pointer (relocation_in l s r)
    && list_any (λ place. (relocation_in l s r).r_address % UNWIND_ENTRY_SIZE == place) ADDRESS_PLACES)
    (filter (λ r. (relocation_in l s r).r_address / UNWIND_ENTRY_SIZE == e) (relocations_of l s))
-- an address has one relocation at most
keeps l s e U3 = list_all (λ place. nat_le (length (relocations_in_entry l s e place)) 1) ADDRESS_PLACES
-- the start has a relocation that names, by number, a section that functions stand in
keeps l s e U4 =
    not (length (relocations_in_entry l s e START_PLACE) == 0)
    && list_all (λ r. not (relocation_in l s r).r_extern && holds_functions l (section_named l s r))
    (relocations_in_entry l s e START_PLACE)
-- the function lies in its section
keeps l s e U5 = list_all (λ r. lies_in l (section_named l s r) (unwind_entry l s e).start (unwind_entry l s e).length) (starts_in l s e)
-- no other entry begins where this one does
keeps l s e U6 =
    list_all (λ d. not (same_start l d (record { of_section = s; entry = e })) || (same_section d.of_section s && (d.entry == e)))
    (entries_of_link l)
-- a personality is a symbol that is defined or imported, language data a place in a carried section by number
keeps l s e U7 =
    list_all (λ r. (relocation_in l s r).r_extern && (is_defined (target_of_relocation l s r) || is_import (target_of_relocation l s r)))
    (relocations_in_entry l s e PERSONALITY_PLACE)
    && list_all
    (λ r. not (relocation_in l s r).r_extern && is_carried (header_at l (section_named l s r))
    && lies_in l (section_named l s r) (unwind_entry l s e).lsda 0)
    (relocations_in_entry l s e LSDA_PLACE)
-- the bits that the linker numbers personalities by are clear, and so is an address without a relocation
keeps l s e U8 =
    (bits 28 2 (unwind_entry l s e).encoding == 0)
    && list_all (λ (w : ℕ × ℕ). not (length (relocations_in_entry l s e w.0) == 0) || (w.1 == 0))
    ((START_PLACE, (unwind_entry l s e).start) ∷ (PERSONALITY_PLACE, (unwind_entry l s e).personality)
    ∷ (LSDA_PLACE, (unwind_entry l s e).lsda) ∷ [])

-- the personality functions, each once
unfoldable pub personality_targets : Link → List Target
personality_targets l = distinct same_target (targets_at l (personality_relocations l))
