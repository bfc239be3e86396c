-- What is told of the parts of a link: by its placement, its numbered needs, its rows of symbols and the views of its objects.
use Rattle.std.specs.Prelude.{ℕ, ◌+◌, ◌==◌, nat_lt, if◌then◌else◌, Bool, false, List, length, map, get_or, Option, Some, None}
use Rattle.macho_model.specs.declared.targets.Target.TheVariants as target
use Rattle.macho_model.specs.Objects.{section_at}
use Rattle.macho_model.specs.Links.{is_template}
use Rattle.macho_model.specs.Targets.{same_target}
use Rattle.macho_model.specs.Fixups.{EntryOfImport, same_entry}
use Rattle.macho_model.specs.Addresses.{section_address}
use Rattle.macho_object.specs.Views.{FileBytes, section_count}
use Rattle.macho_symbol_names.specs.Events.{event_at}
use Rattle.macho_symbols.specs.Targets.{target_in}
use Rattle.macho_needs.specs.Tables.{number_of}
use Rattle.macho_fields.specs.Looks.{Look}
use Rattle.macho_places.specs.Places.{Known}

-- whether a section of a viewed object lies in the thread-local template
abbrev pub template_in : Option FileBytes → ℕ → Bool
template_in None section = false
template_in (Some f) section = if nat_lt section (section_count f.is_dynamic f.bytes) then is_template
    (section_at f.bytes section) else false

-- an address by its number, where there is one
abbrev pub numbered : List ℕ → Option ℕ → ℕ
numbered addresses None = 0
numbered addresses (Some number) = get_or addresses number 0

-- the number of an entry: an import's is its own where nothing is added, and others stand behind all imports
abbrev pub number_behind : ℕ → List EntryOfImport → Option ℕ → ℕ
number_behind imports own None = imports + length own
number_behind imports own (Some number) = imports + number

abbrev pub entry_number : ℕ → List EntryOfImport → ℕ → ℕ → ℕ
entry_number imports own id addend =
    if addend == 0 then (if nat_lt id imports then id else number_behind imports own (number_of same_entry own
    (record { import = id; addend = addend })))
    else number_behind imports own (number_of same_entry own (record { import = id; addend = addend }))

-- All that is told: a symbol leads where the rows of all files say, a section has the address of its placement and is in the template
-- by its header, and what is numbered has its address by its number.
unfoldable pub look_of : Known → Look
look_of k = record {
  target = λ file symbol. target_in k.rows.files k.rows.noted (event_at k.rows.files file symbol);
  in_template = λ file section. template_in (get_or k.views file None) section;
  own = entry_number k.imports k.tables.own;
  base = k.placed.base;
  section = section_address k.placed;
  common = λ id. get_or (map (λ c. c.address) k.placed.commons) id 0;
  slot = λ t. numbered (map (λ s. s.address) k.placed.slots) (number_of same_target k.tables.slots t);
  stub = λ id. numbered (map (λ s. s.address) k.placed.stubs) (number_of same_target k.tables.stubs (target.Import id));
  template = k.placed.template;
}
