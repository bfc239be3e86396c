-- The number of an output section, as the headers of a placement tell it: that of the first header of a segment, name and type that is no
-- section of the linker's own.
use Rattle.std.specs.Prelude.{◌≡◌, ℕ, ◌+◌, ◌-◌, ◌==◌, nat_lt, ◌&&◌, ◌||◌, not, if◌then◌else◌, Bool, false, List, [], ◌∷◌, length, map, Option, Some, None, unwrap_or}
use Rattle.std.specs.List.{position_or_len, range_with_len}
use Rattle.std.specs.Str.{bytes_eq}
use Rattle.macho_bytes.specs.Texts.{name_of}
use Rattle.macho_records.specs.declared.header.SectionHeader.{SectionHeader}
use Rattle.macho_records.specs.Sections.{type_of}
use Rattle.macho_records.specs.Symbols.{is_common_of, has_type}
use Rattle.macho_records.specs.declared.symbols.SymtabEntry.{SymtabEntry}
use Rattle.macho_records.specs.declared.constants.TheConstants.{N_ABS}
use Rattle.macho_model.specs.declared.placed.Range64.{Range64}
use Rattle.macho_model.specs.declared.placed.Slot.{Slot}
use Rattle.macho_model.specs.Objects.{section_at}
use Rattle.macho_model.specs.Segments.{TEXT, DATA_CONST, OutputKey, same_key, key_of, common_key}
use Rattle.macho_model.specs.Placement.{Placed}
use Rattle.macho_object.specs.Views.{FileBytes, section_count, of_section}
use Rattle.macho_linkedit.specs.declared.listing.LinkedObject.{LinkedObject}
use Rattle.macho_layout.specs.Keys.{padded}
use Rattle.macho_layout.specs.declared.spec.OutputName.{OutputName}
use Rattle.macho_symbol_tables.specs.declared.sections.SectionNumbers.{SectionNumbers}

-- what sections of a segment, a name and a type are merged by, as tables hold it; and those of a header
abbrev pub output_name : List ℕ → List ℕ → ℕ → OutputName
output_name segment name kind = record { segment = padded segment; name = padded name; kind = kind }

abbrev pub merged_name : SectionHeader → OutputName
merged_name h = output_name h.segname h.sectname (type_of h)

-- an output section of a segment begins at an address, and has bytes
abbrev pub begins_at : SectionHeader → List ℕ → ℕ → Bool
begins_at h segment address = bytes_eq (name_of h.segname) segment && (h.addr == address) && not (h.size == 0)

-- a range of the linker's own is an output section of `__TEXT`
abbrev pub fills : SectionHeader → Range64 → Bool
fills h r = nat_lt r.start r.end && begins_at h TEXT r.start

-- the slots are one of `__DATA_CONST`
abbrev pub holds_slots : SectionHeader → List Slot → Bool
holds_slots h [] = false
holds_slots h (s ∷ slots) = begins_at h DATA_CONST s.address

-- the linker makes an output section: stubs, which tell their size; offsets of initializers, unwind information, slots
abbrev pub is_made : Placed → SectionHeader → Bool
is_made p h = not (h.reserved2 == 0) || fills h p.init_offsets || fills h p.unwind || holds_slots h p.slots

-- sections of a key are merged into an output section
abbrev pub is_of : Placed → OutputKey → SectionHeader → Bool
is_of p key h = same_key key (key_of h) && not (is_made p h)

-- its number from 1, 0 where there is none
abbrev pub number_or_none : ℕ → ℕ → ℕ
number_or_none n length = if nat_lt n length then n + 1 else 0

unfoldable pub number_told : Placed → OutputKey → ℕ
number_told p key = number_or_none (position_or_len (is_of p key) p.output_sections) (length p.output_sections)

-- a table finds the number of each output section by what is merged into it
pub record FindsNumbers (p : Placed) (find : OutputName → Option ℕ) : Type 0 where
  pub each : (segment name : List ℕ) (kind : ℕ)
      → unwrap_or (find (output_name segment name kind)) 0
      ≡ number_told p (record { segment = name_of segment; name = name_of name; type = kind })

-- a section of an object, as its view shows it
abbrev pub header_with : FileBytes → Option ℕ → Option SectionHeader
header_with f None = None
header_with f (Some section) = of_section f section (section_at f.bytes section)

abbrev pub number_with : Placed → Option SectionHeader → ℕ
number_with p None = 0
number_with p (Some h) = number_told p (key_of h)

-- the numbers of the output sections that the sections of an object are merged into, in order
unfoldable pub sections_told : Placed → FileBytes → List ℕ
sections_told p f = map (λ k. number_with p (header_with f (Some k))) (range_with_len 0 (section_count f.is_dynamic f.bytes))

-- the same for each object
abbrev pub objects_told : Placed → List LinkedObject → List (List ℕ)
objects_told p objects = map (λ o. sections_told p o.file) objects

-- These are the numbers of the output sections of objects' sections, and of commons.
pub record AreNumbers (p : Placed) (objects : List LinkedObject) (n : SectionNumbers) : Type 0 where
  pub sections : map (λ numbers. numbers.items) n.objects.items ≡ objects_told p objects
  pub commons : n.commons ≡ number_told p common_key

-- the number of the output section that a symbol stands in, 0 for a value of its own
abbrev pub section_told : Placed → FileBytes → SymtabEntry → ℕ
section_told p f e =
    if is_common_of e then number_told p common_key
    else if has_type N_ABS e then 0
    else number_with p (header_with f (Some (e.n_sect - 1)))
