-- A row of the symbol table before the place of its name is known.
use Rattle.std.specs.Prelude.{ℕ, List, map}
use Rattle.macho_model.specs.declared.placed.Counts.{Counts}
use Rattle.macho_model.specs.Links.{Link}
use Rattle.macho_model.specs.Resolution.{SymbolId, name_at}
use Rattle.macho_model.specs.Placement.{Placed}
use Rattle.macho_model.specs.SymbolTable.{table_symbols}
use Rattle.macho_model.specs.SymbolEntries.{entry_of_symbol}

-- the symbol's name, and the fields of its entry but the place of the name
pub record SymbolRow : Type 0 where
  pub name : List ℕ
  pub type : ℕ
  pub section : ℕ
  pub description : ℕ
  pub value : ℕ

abbrev pub row_of : Link → Counts → Placed → SymbolId → SymbolRow
row_of l counts p s = record {
  name = name_at l s;
  type = (entry_of_symbol l counts p 0 s).n_type;
  section = (entry_of_symbol l counts p 0 s).n_sect;
  description = (entry_of_symbol l counts p 0 s).n_desc;
  value = (entry_of_symbol l counts p 0 s).n_value;
}

-- the rows of a link, by object, then symbol
unfoldable pub symbol_rows : Link → Counts → Placed → List SymbolRow
symbol_rows l counts p = map (row_of l counts p) (table_symbols l)
