-- What a view of an object or of a dynamic library shows: the bytes and their kind. All that its accessors answer is
-- what the grammar reads in these bytes.
use Rattle.std.specs.Prelude.{◌≡◌, ℕ, ◌-◌, ◌<◌, nat_lt, ◌&&◌, not, if◌then◌else◌, Bool, true, false, List, Option, Some, None}
use Rattle.std.specs.Str.{bytes_eq}
use Rattle.macho_records.specs.Sections.{section_name_of}
use Rattle.macho_records.specs.declared.symbols.SymtabEntry.{SymtabEntry}
use Rattle.macho_records.specs.RelocationInfo.{RelocationInfo}
use Rattle.macho_records.specs.Symbols.{is_stab_of, has_type}
use Rattle.macho_records.specs.declared.constants.TheConstants.{N_SECT}
use Rattle.macho_model.specs.Objects.{num_sections, section_at, num_symbols, symbol_at, symbol_name, relocation_at, install_name_of}

-- A file as its view shows it: its bytes, and whether they are read as a dynamic library.
pub record FileBytes : Type 0 where
  pub bytes : List ℕ
  pub is_dynamic : Bool

-- The relocations of a section, as their view shows them.
pub record RelocationBytes : Type 0 where
  pub bytes : List ℕ
  pub section : ℕ

-- how many sections are read: those of an object, none of a library
abbrev pub section_count : Bool → List ℕ → ℕ
section_count dyn b = if dyn then 0 else num_sections b

-- an answer about a section, which is there where the section is
abbrev pub of_section : {X : Type 0} → FileBytes → ℕ → X → Option X
of_section f k answer = if nat_lt k (section_count f.is_dynamic f.bytes) then Some answer else None

-- a symbol, where it is there
abbrev pub symbol_of : FileBytes → ℕ → Option SymtabEntry
symbol_of f k = if nat_lt k (num_symbols f.bytes) then Some (symbol_at f.bytes k) else None

-- the name of a symbol that is there and no debugging entry
abbrev pub symbol_name_of : FileBytes → ℕ → Option (List ℕ)
symbol_name_of f k =
    if nat_lt k (num_symbols f.bytes) && not (is_stab_of (symbol_at f.bytes k)) then Some (symbol_name f.bytes k) else None

-- an answer about the section that an object's symbol is defined in
abbrev pub of_symbol_section : {X : Type 0} → FileBytes → ℕ → X → Option X
of_symbol_section f k answer =
    if not f.is_dynamic && (nat_lt k (num_symbols f.bytes) && has_type N_SECT (symbol_at f.bytes k)) then Some answer else None

-- that section, counted from 0
abbrev pub section_index_of : FileBytes → ℕ → ℕ
section_index_of f k = (symbol_at f.bytes k).n_sect - 1

-- how far a symbol stands behind the start of its section
abbrev pub symbol_offset_of : FileBytes → ℕ → ℕ
symbol_offset_of f k = (symbol_at f.bytes k).n_value - (section_at f.bytes (section_index_of f k)).addr

-- the first section of a name, where there is one
abbrev pub IsFirstNamed : FileBytes → List ℕ → Option ℕ → Type 0
IsFirstNamed f name None =
    (j : ℕ) → j < section_count f.is_dynamic f.bytes → bytes_eq (section_name_of (section_at f.bytes j)) name ≡ false
IsFirstNamed f name (Some k) =
    (k < section_count f.is_dynamic f.bytes) × (bytes_eq (section_name_of (section_at f.bytes k)) name ≡ true)
    × ((j : ℕ) → j < k → bytes_eq (section_name_of (section_at f.bytes j)) name ≡ false)

-- a relocation of a section, where it is there
abbrev pub relocation_of : RelocationBytes → ℕ → Option RelocationInfo
relocation_of l r =
    if nat_lt r (section_at l.bytes l.section).nreloc then Some (relocation_at l.bytes l.section r) else None

-- the install name of a library
abbrev pub install_name_in : FileBytes → Option (List ℕ)
install_name_in f = if f.is_dynamic then Some (install_name_of f.bytes) else None
