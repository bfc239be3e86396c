-- The symbol table of an image before it stands in a file: its entries, and its strings, a NUL and then each name with its NUL
-- (`mach-o/nlist.h`).
use Rattle.std.specs.Prelude.{◌≡◌, ℕ, ◌+◌, ◌*◌, ◌≤◌, List, [], ◌∷◌, ◌++◌, length, All}
use Rattle.std.specs.List.{flat_map}
use Rattle.macho_bytes.specs.Texts.{put, Stands}
use Rattle.macho_bytes.specs.Layouts.{size_of}
use Rattle.macho_records.specs.Layouts.{symtab_entry}
use Rattle.macho_records.specs.declared.symbols.SymtabEntry.{SymtabEntry}
use Rattle.macho_model.specs.Images.{symbol_tables_of, string_tables_of}
use Rattle.macho_linkedit.specs.TableRows.{SymbolRow}
use Rattle.macho_linkedit.specs.declared.symbols.TableRow.{TableRow}
use Rattle.macho_linkedit.specs.declared.symbols.SymbolWriter.{SymbolWriter}
use Rattle.macho_bytes.specs.Spellings.{spelling, ReadsBack}
use Rattle.macho_records.specs.Spellings.{symtab_entry_rows}

-- entries, and the bytes of the strings
pub record SymbolTable : Type 0 where
  pub entries : List SymtabEntry
  pub strings : List ℕ

-- a row of the code without where its name lies
abbrev pub row_seen : TableRow → SymbolRow
row_seen r = record { name = r.name.now; type = r.kind; section = r.section; description = r.description; value = r.value }

-- the entry of a row whose name stands at a place of the strings
abbrev pub entry_for : ℕ → SymbolRow → SymtabEntry
entry_for place r = record { n_strx = place; n_type = r.type; n_sect = r.section; n_desc = r.description; n_value = r.value }

-- entries of rows, with names from a place on
abbrev pub entries_from : ℕ → List SymbolRow → List SymtabEntry
entries_from place [] = []
entries_from place (r ∷ rows) = entry_for place r ∷ entries_from (place + (length r.name + 1)) rows

abbrev pub strings_of_rows : List SymbolRow → List ℕ
strings_of_rows rows = 0 ∷ flat_map (λ r. r.name ++ 0 ∷ []) rows

-- The table has these rows: the first name stands behind a NUL.
pub record HasRows (rows : List SymbolRow) (t : SymbolTable) : Type 0 where
  pub entries_are : t.entries ≡ entries_from 1 rows
  pub strings_are : t.strings ≡ strings_of_rows rows

-- the bytes: entries, and strings behind them
unfoldable pub table_text : SymbolTable → List ℕ
table_text t = flat_map (spelling symtab_entry_rows) t.entries ++ t.strings

-- The table of some rows is written at the front of a range, and the bytes behind it stay.
pub record IsTableWritten (rows : List SymbolRow) (before now : List ℕ) : Type 0 where
  pub table : SymbolTable
  pub rows_are : HasRows rows table
  pub is : now ≡ put 0 (table_text table) before
  pub back : All (ReadsBack symtab_entry_rows) table.entries

-- The first rows of a table with a number of symbols are written: their entries at the front of a range, and their strings
-- behind the room of all entries. All other bytes stay. The next entry goes behind these entries, the next name behind these strings.
pub record AreRowsWritten (symbols : ℕ) (rows : List SymbolRow) (w : SymbolWriter) (before now : List ℕ) : Type 0 where
  pub table : SymbolTable
  pub rows_are : HasRows rows table
  pub entry : w.entry ≡ size_of symtab_entry * length table.entries
  pub strings : w.strings ≡ size_of symtab_entry * symbols
  pub name : w.name ≡ length table.strings
  pub room : w.entry ≤ w.strings
  pub inside : w.strings + w.name ≤ length before
  pub is : now ≡ put w.strings table.strings (put 0 (flat_map (spelling symtab_entry_rows) table.entries) before)
  pub back : All (ReadsBack symtab_entry_rows) table.entries

-- A symbol table stands in a file at the ranges that the file's one command tells: entries, and strings behind them.
pub record SymbolsStand (b : List ℕ) (at : ℕ) (t : SymbolTable) : Type 0 where
  pub symbols : symbol_tables_of b ≡ record { at = at; size = size_of symtab_entry * length t.entries } ∷ []
  pub strings : string_tables_of b ≡ record { at = at + size_of symtab_entry * length t.entries; size = length t.strings } ∷ []
  pub text : Stands b (record { at = at; text = table_text t })
  pub back : All (ReadsBack symtab_entry_rows) t.entries
