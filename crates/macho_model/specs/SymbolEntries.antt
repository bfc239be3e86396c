-- The symbol table of an image: the entries that a link and its placement ask for, and those that a file has (`mach-o/nlist.h`).
use Rattle.std.specs.Prelude.{◌≡◌, ℕ, ◌+◌, ◌-◌, ◌*◌, ◌^◌, ◌&&◌, ◌||◌, not, if◌then◌else◌, List, [], ◌∷◌, ◌++◌, length, map, bit_and, bit_or}
use Rattle.std.specs.List.{flat_map, position_or_len, range_with_len}
use Rattle.macho_records.specs.Numbers.{bits}
use Rattle.macho_records.specs.declared.constants.TheConstants.{N_EXT, N_PEXT, N_SECT, N_ABS}
use Rattle.macho_records.specs.declared.symbols.SymtabEntry.{SymtabEntry}
use Rattle.macho_records.specs.Symbols.{is_common_of, is_hidden_of, has_type, is_global}
use Rattle.macho_model.specs.Objects.{num_symbols, symbol_at, strings_of}
use Rattle.macho_model.specs.Links.{Link, header_at}
use Rattle.macho_model.specs.Resolution.{SymbolId, entry_at, name_at, section_of_symbol}
use Rattle.macho_model.specs.Targets.{own_target}
use Rattle.macho_model.specs.declared.placed.Counts.{Counts}
use Rattle.macho_model.specs.Segments.{OutputKey, same_key, key_of, common_key}
use Rattle.macho_model.specs.OutputSections.{output_sections_of}
use Rattle.macho_model.specs.Placement.{Placed}
use Rattle.macho_model.specs.Exports.{is_listed}
use Rattle.macho_model.specs.Addresses.{address_of}
use Rattle.macho_model.specs.SymbolTable.{table_symbols}

-- the number of the output section that sections of a key are merged into, from 1
abbrev pub section_number : Link → Counts → OutputKey → ℕ
section_number l counts key = position_or_len (λ o. o.is_merged && same_key key o.key) (output_sections_of l counts) + 1

-- the number of the section that a symbol stands in, 0 for a value of its own
abbrev pub entry_section : Link → Counts → SymbolId → ℕ
entry_section l counts s =
    if is_common_of (entry_at l s) then section_number l counts common_key
    else if has_type N_ABS (entry_at l s) then 0
    else section_number l counts (key_of (header_at l (section_of_symbol l s)))

-- a common has become a symbol of a section
abbrev pub placed_type : Link → SymbolId → ℕ
placed_type l s = if is_common_of (entry_at l s) then bit_or (entry_at l s).n_type N_SECT else (entry_at l s).n_type

-- the entry of a symbol whose name stands at a place of the string table
abbrev pub entry_of_symbol : Link → Counts → Placed → ℕ → SymbolId → SymtabEntry
entry_of_symbol l counts p place s = record {
  n_strx = place;
  -- only this image sees a global symbol that is hidden, or that the export lists leave out: it has `N_PEXT` in place of `N_EXT`
  n_type = if is_global (entry_at l s) && (is_hidden_of (entry_at l s) || not (is_listed l (name_at l s)))
      then bit_or (bit_and (placed_type l s) (255 - N_EXT)) N_PEXT else placed_type l s;
  n_sect = entry_section l counts s;
  -- a common has lost its alignment, bits 8 to 11
  n_desc = if is_common_of (entry_at l s) then (entry_at l s).n_desc - bits 8 4 (entry_at l s).n_desc * 2 ^ 8 else (entry_at l s).n_desc;
  n_value = address_of p (own_target l s);
}

-- entries of symbols whose names stand from a place on, each behind the one before it and its NUL
abbrev pub placed_entries : Link → Counts → Placed → ℕ → List SymbolId → List SymtabEntry
placed_entries l counts p place [] = []
placed_entries l counts p place (s ∷ ss) =
    entry_of_symbol l counts p place s ∷ placed_entries l counts p (place + (length (name_at l s) + 1)) ss

-- THE entries of the symbol table, by object, then symbol; the first name stands behind a NUL.
unfoldable pub symbol_entries : Link → Counts → Placed → List SymtabEntry
symbol_entries l counts p = placed_entries l counts p 1 (table_symbols l)

-- THE string table: a NUL, and then the name of each symbol of the table with its NUL.
unfoldable pub strings_text : Link → List ℕ
strings_text l = 0 ∷ flat_map (λ s. name_at l s ++ 0 ∷ []) (table_symbols l)

-- The file's symbol table has these entries, and its string table these names.
pub record SymbolsSay (l : Link) (counts : Counts) (b : List ℕ) (p : Placed) : Type 0 where
  pub entries : map (symbol_at b) (range_with_len 0 (num_symbols b)) ≡ symbol_entries l counts p
  pub strings : strings_of b ≡ strings_text l
