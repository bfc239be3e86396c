-- Objects by their numbers, and what a row of the symbol table rests on.
use Rattle.std.specs.Prelude.{◌≡◌, ℕ, ◌<◌, false, List, length, map, get_or, Option, Contains}
use Rattle.macho_records.specs.Symbols.{is_stab_of}
use Rattle.macho_model.specs.declared.placed.Counts.{Counts}
use Rattle.macho_model.specs.Objects.{num_symbols, symbol_at}
use Rattle.macho_model.specs.Links.{Link, object_of}
use Rattle.macho_model.specs.Placement.{Placed}
use Rattle.macho_model.specs.SymbolTable.{table_symbols}
use Rattle.macho_export_lists.specs.Entries.{ListEntries}
use Rattle.macho_symbols.specs.Exported.{AreLists}
use Rattle.macho_symbols.specs.Kept.{symbol_id}
use Rattle.macho_fields.specs.Looks.{Look}
use Rattle.macho_linkedit.specs.declared.listing.LinkedObject.{LinkedObject}
use Rattle.macho_symbol_tables.specs.Placed.{IsToTable}

-- the number of an object, by its place
abbrev pub number_of : List LinkedObject → ℕ → ℕ
number_of objects k = get_or (map (λ o. o.number) objects) k 0

-- the numbers of objects rise
abbrev pub NumbersRise : List LinkedObject → Type 0
NumbersRise objects = (i j : ℕ) → i < j → j < length objects → number_of objects i < number_of objects j

-- an object of a number is among them, and stands at a place
abbrev pub HasNumber : List LinkedObject → ℕ → Type 0
HasNumber objects number = (k : ℕ) × (k < length objects) × (number_of objects k ≡ number)

pub record IsObjectAt (objects : List LinkedObject) (number place : ℕ) : Type 0 where
  pub within : place < length objects
  pub is : number_of objects place ≡ number

-- A symbol that can have a row: it is one of its object, and no debugging entry.
pub record CanHaveRow (o : LinkedObject) (index : ℕ) : Type 0 where
  pub kind : o.file.is_dynamic ≡ false
  pub among : index < num_symbols o.file.bytes
  pub plain : is_stab_of (symbol_at o.file.bytes index) ≡ false

-- The symbol is one of the table of a placed link.
pub record IsListed (l : Link) (counts : Counts) (p : Placed) (look : Look) (o : LinkedObject) (index : ℕ) (lists : Option ListEntries)
    : Type 0 where
  pub link : IsToTable l counts p look
  pub bytes_are : object_of l o.number ≡ o.file.bytes
  pub listed : Contains (table_symbols l) (symbol_id o.number index)
  pub lists_are : AreLists l lists
