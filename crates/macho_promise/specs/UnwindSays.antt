-- What the unwind information of an image says: look-up of an offset finds the entry of its function.
use Rattle.std.specs.Prelude.{◌≡◌, ℕ, ◌+◌, ◌-◌, ◌≤◌, ◌⊎◌, ◌↔◌, List, [], length, map, slice_get, slice_range, Option, Some, None, option_map}
use Rattle.macho_bytes.specs.Texts.{Stands}
use Rattle.macho_model.specs.Links.{Link, header_at}
use Rattle.macho_model.specs.Needs.{section_named, PERSONALITY_PLACE}
use Rattle.macho_model.specs.Targets.{slot_number, target_of_relocation}
use Rattle.macho_model.specs.Consumed.{EntryId, entries_of_link, relocations_in_entry, unwind_entry, START_PLACE, LSDA_PLACE}
use Rattle.macho_model.specs.Placement.{Placed}
use Rattle.macho_model.specs.Addresses.{section_address, slot_address, offset_in_file}
use Rattle.macho_unwind.specs.ResolvedUnwindInfo.{ResolvedUnwindInfo}
use Rattle.macho_unwind.specs.declared.lookup.Found.{Found}
use Rattle.macho_unwind.specs.Lookup.{UnwindFinds}
use Rattle.macho_unwind.specs.Entries.{IsFoundFor, IsSectionOf}

-- the relocation of an address of an entry, where it has one
abbrev pub relocation_of : Link → EntryId → ℕ → Option ℕ
relocation_of l d place = slice_get (relocations_in_entry l d.of_section d.entry place) 0

-- where a byte of the input is that a relocation by section number leads to
abbrev pub moved : Link → Placed → EntryId → ℕ → ℕ → ℕ
moved l p d address r =
    section_address p d.of_section.file (section_named l d.of_section r).section
    + (address - (header_at l (section_named l d.of_section r)).addr)

abbrev pub start_of : Link → Placed → EntryId → Option ℕ → ℕ
start_of l p d (Some r) = moved l p d (unwind_entry l d.of_section d.entry).start r
start_of l p d None = 0

-- an entry of the inputs at its final address
abbrev pub resolved : Link → Placed → EntryId → ResolvedUnwindInfo
resolved l p d = record {
  start = start_of l p d (relocation_of l d START_PLACE);
  length = (unwind_entry l d.of_section d.entry).length;
  encoding = (unwind_entry l d.of_section d.entry).encoding;
  -- a personality function is named by the number of its slot, and found through the slot
  personality = option_map (λ r. record {
    id = slot_number l (target_of_relocation l d.of_section r);
    slot = slot_address p (target_of_relocation l d.of_section r);
  }) (relocation_of l d PERSONALITY_PLACE);
  lsda = option_map (moved l p d (unwind_entry l d.of_section d.entry).lsda) (relocation_of l d LSDA_PLACE);
}

unfoldable pub resolved_entries : Link → Placed → List ResolvedUnwindInfo
resolved_entries l p = map (resolved l p) (entries_of_link l)

-- the bytes of the range of unwind information
unfoldable pub unwind_bytes : List ℕ → Placed → List ℕ
unwind_bytes b p = slice_range b (offset_in_file p p.unwind.start) (offset_in_file p p.unwind.start + (p.unwind.end - p.unwind.start))

-- bytes that are the unwind information of entries and no more: none for no entries, else the section of their plan
abbrev pub IsUnwindText : ℕ → List ResolvedUnwindInfo → List ℕ → Type 0
IsUnwindText text entries bytes = ((entries ≡ []) × (bytes ≡ [])) ⊎ ((1 ≤ length entries) × IsSectionOf text entries bytes)

-- THE unwind information of the file: every offset finds the entry with the greatest start not above it, and nothing before
-- the first start or from the end of the last function on. (That there is no range without entries is part of the sizes.)
pub record UnwindSays (l : Link) (b : List ℕ) (p : Placed) : Type 0 where
  -- what the range begins with; the room behind it is for zeros
  pub content : List ℕ
  pub exact : IsUnwindText p.base (resolved_entries l p) content
  pub begins : Stands (unwind_bytes b p) (record { at = 0; text = content })
  -- look-up of an offset finds exactly what its entry says
  pub finds : (offset : ℕ) (x : Found) → UnwindFinds (unwind_bytes b p) offset x ↔ IsFoundFor p.base (resolved_entries l p) offset x
