-- What is kept of consumed sections: a row for each initializer and for each entry of compact unwind information, in the order
-- of files, sections and places.
use Rattle.std.specs.Prelude.{ℕ, ◌*◌, ◌-◌, ◌/◌, List, map, Option, Some, None, option_map}
use Rattle.std.specs.List.{flat_map, range_with_len}
use Rattle.macho_model.specs.Links.{Link, SectionId, header_at}
use Rattle.macho_model.specs.Needs.{relocation_in, section_named, relocations_at, initializer_sections, POINTER_SIZE, PERSONALITY_PLACE}
use Rattle.macho_model.specs.Consumed.{EntryId, entries_of_link, unwind_entry, START_PLACE, LSDA_PLACE}
use Rattle.macho_promise.specs.UnwindSays.{relocation_of}
use Rattle.macho_consumed.specs.declared.rows.Initializer.{Initializer}
use Rattle.macho_consumed.specs.declared.rows.SectionPlace.{SectionPlace}
use Rattle.macho_consumed.specs.declared.rows.PersonalityUse.{PersonalityUse}
use Rattle.macho_consumed.specs.declared.rows.UnwindEntry.{UnwindEntry}

-- an initializer, by its relocation
abbrev pub initializer_row : Link → SectionId → ℕ → Initializer
initializer_row l s r = record { file = s.file; section = s.section; number = r; relocation = relocation_in l s r }

-- those of a section, slot by slot, and of all sections
unfoldable pub initializer_rows_in : Link → SectionId → List Initializer
initializer_rows_in l s =
    flat_map (λ slot. map (initializer_row l s) (relocations_at l s (POINTER_SIZE * slot)))
    (range_with_len 0 ((header_at l s).size / POINTER_SIZE))

unfoldable pub initializer_rows : Link → List Initializer
initializer_rows l = flat_map (initializer_rows_in l) (initializer_sections l)

-- the place that a word of an entry tells in the section that its relocation names
abbrev pub place_named : Link → SectionId → ℕ → ℕ → SectionPlace
place_named l s address r = record { section = (section_named l s r).section; offset = address - (header_at l (section_named l s r)).addr }

-- a start without a relocation is nowhere; no entry that keeps its rules has one
abbrev pub start_place : Link → EntryId → Option ℕ → SectionPlace
start_place l d None = record { section = 0; offset = 0 }
start_place l d (Some r) = place_named l d.of_section (unwind_entry l d.of_section d.entry).start r

abbrev pub personality_use : Link → EntryId → ℕ → PersonalityUse
personality_use l d r = record { number = r; relocation = relocation_in l d.of_section r }

-- an entry
unfoldable pub entry_row : Link → EntryId → UnwindEntry
entry_row l d = record {
  file = d.of_section.file;
  section = d.of_section.section;
  entry = d.entry;
  start = start_place l d (relocation_of l d START_PLACE);
  length = (unwind_entry l d.of_section d.entry).length;
  encoding = (unwind_entry l d.of_section d.entry).encoding;
  personality = option_map (personality_use l d) (relocation_of l d PERSONALITY_PLACE);
  lsda = option_map (place_named l d.of_section (unwind_entry l d.of_section d.entry).lsda) (relocation_of l d LSDA_PLACE);
}

unfoldable pub entry_rows : Link → List UnwindEntry
entry_rows l = map (entry_row l) (entries_of_link l)
