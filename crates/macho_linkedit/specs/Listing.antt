-- Which symbols of a link's objects stand in the symbol table, as they are listed before addresses are known.
use Rattle.std.specs.Prelude.{◌≡◌, ℕ, ◌+◌, ◌<◌, ◌^◌, true, false, Bool, List, length, map, sum_by, All, Option, Some, None}
use Rattle.std.specs.List.{enumerate_from, filter_map}
use Rattle.macho_records.specs.Symbols.{is_global}
use Rattle.macho_model.specs.Objects.{num_symbols, symbol_at, symbol_name}
use Rattle.macho_model.specs.Links.{Input, Object, Dylib, Stub, Link, object_of}
use Rattle.macho_model.specs.Resolution.{SymbolId, name_at}
use Rattle.macho_model.specs.SymbolTable.{table_symbols}
use Rattle.macho_model.specs.declared.placed.Counts.{Counts}
use Rattle.macho_model.specs.Exports.{is_listed}
use Rattle.macho_model.specs.Targets.{own_target}
use Rattle.macho_model.specs.Placement.{Placed}
use Rattle.macho_model.specs.Addresses.{address_of}
use Rattle.macho_model.specs.SymbolEntries.{entry_section}
use Rattle.macho_promise.specs.Sizes.{text_size}
use Rattle.macho_symbols.specs.Kept.{ResolvedRows, HasSymbol, symbol_id}
use Rattle.macho_linkedit.specs.declared.listing.LinkedObject.{LinkedObject}
use Rattle.macho_linkedit.specs.declared.listing.TableSymbol.{TableSymbol}
use Rattle.macho_linkedit.specs.declared.listing.TableSymbols.{TableSymbols}

-- an object by its number, nothing for a library
abbrev pub object_in : ℕ × Input → Option (ℕ × List ℕ)
object_in (file, Object bytes) = Some (file, bytes)
object_in (file, Dylib bytes) = None
object_in (file, Stub text says) = None

abbrev pub seen_object : LinkedObject → ℕ × List ℕ
seen_object o = (o.number, o.file.bytes)

-- these are the objects of a link, in order
pub record AreObjects (l : Link) (objects : List LinkedObject) : Type 0 where
  pub are : map seen_object objects ≡ filter_map object_in (enumerate_from 0 l.inputs)

-- Views of objects whose symbols are resolved, with fewer than 2 ^ 32 symbols together.
pub record CanBeListed (r : ResolvedRows) (objects : List LinkedObject) : Type 0 where
  pub kinds : All (λ o. o.file.is_dynamic ≡ false) objects
  pub known : All (λ o. (k : ℕ) → k < num_symbols o.file.bytes → HasSymbol r o.number k) objects
  pub few : sum_by (λ o. num_symbols o.file.bytes) objects < 2 ^ 32

abbrev pub id_of_symbol : TableSymbol → SymbolId
id_of_symbol s = record { file = s.file; symbol = s.symbol }

-- the bytes of its name are told
abbrev pub HasLength : Link → TableSymbol → Type 0
HasLength l s = s.length ≡ length (name_at l (id_of_symbol s))

-- THE symbols of the table with the bytes of their names, and the bytes of its strings.
pub record AreListed (l : Link) (t : TableSymbols) : Type 0 where
  pub symbols_are : map id_of_symbol t.symbols.items ≡ table_symbols l
  pub lengths_are : All (HasLength l) t.symbols.items
  pub strings_are : t.strings ≡ 1 + sum_by (λ s. text_size (name_at l s)) (table_symbols l)

-- What the row of a symbol is made of, besides its entry: its name, of a global one whether the export lists contain it, the number of
-- its output section, and its address or value.
pub record IsRowOf (l : Link) (counts : Counts) (p : Placed) (o : LinkedObject) (index : ℕ) (name : List ℕ) (listed : Bool)
    (section address : ℕ) : Type 0 where
  pub bytes_are : object_of l o.number ≡ o.file.bytes
  pub name_is : name ≡ symbol_name o.file.bytes index
  pub listed_is : is_global (symbol_at o.file.bytes index) ≡ true → listed ≡ is_listed l (symbol_name o.file.bytes index)
  pub section_is : section ≡ entry_section l counts (symbol_id o.number index)
  pub address_is : address ≡ address_of p (own_target l (symbol_id o.number index))
