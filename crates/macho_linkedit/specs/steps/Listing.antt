-- Symbols of an object as they are looked at one by one.
use Rattle.std.specs.Prelude.{◌≡◌, ℕ, ◌+◌, ◌-◌, ◌*◌, ◌^◌, bit_or, ◌==◌, nat_eq, ◌&&◌, ◌||◌, not, if◌then◌else◌, Bool, List, codes, ◌++◌, map, filter, length, sum_by, All, Option, Some, None}
use Rattle.std.specs.List.{range_with_len, starts_with}
use Rattle.macho_records.specs.Symbols.{is_common_of, is_hidden_of, has_type, is_global}
use Rattle.macho_model.specs.Objects.{symbol_at}
use Rattle.macho_model.specs.Links.{Link}
use Rattle.macho_model.specs.Resolution.{SymbolId, name_at}
use Rattle.macho_bytes.specs.Numbers.{bits}
use Rattle.macho_records.specs.declared.symbols.SymtabEntry.{SymtabEntry}
use Rattle.macho_records.specs.declared.constants.TheConstants.{N_SECT, N_ABS}
use Rattle.macho_promise.specs.Sizes.{text_size}
use Rattle.macho_symbol_names.specs.Kept.{in_carried}
use Rattle.macho_symbols.specs.Kept.{symbol_id}
use Rattle.macho_linkedit.specs.declared.listing.TableSymbols.{TableSymbols}
use Rattle.macho_linkedit.specs.Listing.{id_of_symbol, HasLength}
use Rattle.macho_model.specs.steps.SymbolTable.{is_in_table}
use Rattle.macho_model.specs.steps.SymbolEntries.{hidden_type}

abbrev pub is_defined_symbol : List ℕ → ℕ → Bool
is_defined_symbol b k =
    not ((symbol_at b k).n_strx == 0) && (in_carried b (symbol_at b k) || has_type N_ABS (symbol_at b k) || is_common_of (symbol_at b k))

-- a label that assemblers make for themselves
abbrev pub is_label : List ℕ → Bool
is_label name = starts_with nat_eq name (codes "ltmp")

-- the bytes of a symbol's name, where it stands in the table of a link
abbrev pub name_length : Link → SymbolId → Option ℕ
name_length l s = if is_in_table l s then Some (length (name_at l s)) else None

-- the first n symbols of an object
abbrev pub symbols_in : ℕ → List ℕ → ℕ → List SymbolId
symbols_in file b n = map (λ k. symbol_id file k) (range_with_len 0 n)

-- Of some symbols those that stand in the table are listed behind the others, and the bytes of their names are told and added.
pub record Lists (l : Link) (symbols : List SymbolId) (old new : TableSymbols) : Type 0 where
  pub symbols_are : map id_of_symbol new.symbols.items ≡ map id_of_symbol old.symbols.items ++ filter (is_in_table l) symbols
  pub lengths_are : All (HasLength l) old.symbols.items → All (HasLength l) new.symbols.items
  pub strings_are : new.strings ≡ old.strings + sum_by (λ s. text_size (name_at l s)) (filter (is_in_table l) symbols)

-- the type and the description of a row, by the symbol's entry and whether its name is listed
abbrev pub common_type : SymtabEntry → ℕ
common_type e = if is_common_of e then bit_or e.n_type N_SECT else e.n_type

abbrev pub placed_type_of : SymtabEntry → Bool → ℕ
placed_type_of e listed = if is_global e && (is_hidden_of e || not listed) then hidden_type (common_type e) else common_type e

abbrev pub placed_description_of : SymtabEntry → ℕ
placed_description_of e = if is_common_of e then e.n_desc - bits 8 4 e.n_desc * 2 ^ 8 else e.n_desc
