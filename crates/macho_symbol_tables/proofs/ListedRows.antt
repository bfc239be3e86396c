-- The rows of the listed symbols, one more at each step.
use Rattle.std.proofs.Common.{◌≡◌, ℕ, ◌+◌, ◌*◌, ◌^◌, ◌<◌, ◌≤◌, List, [], ◌∷◌, ◌++◌, map, take, length, get_or, sym, ap, subst, ◌∙◌, arith, Contains}
use Rattle.std.proofs.lemmas.List.{get_or-map, get_or_default, length-map, length-take, take_all}
use Rattle.macho_model.specs.declared.placed.Counts.{Counts}
use Rattle.macho_model.specs.Links.{Link}
use Rattle.macho_model.specs.Resolution.{SymbolId, name_at}
use Rattle.macho_model.specs.Placement.{Placed}
use Rattle.macho_model.specs.SymbolTable.{table_symbols}
use Rattle.macho_linkedit.specs.TableRows.{SymbolRow, row_of, symbol_rows}
use Rattle.macho_symbols.specs.Kept.{symbol_id}
use Rattle.macho_linkedit.specs.declared.listing.LinkedObject.{LinkedObject}
use Rattle.macho_linkedit.specs.declared.listing.TableSymbol.{TableSymbol}
use Rattle.macho_linkedit.specs.declared.listing.TableSymbols.{TableSymbols}
use Rattle.macho_linkedit.specs.declared.symbols.SymbolWriter.{SymbolWriter}
use Rattle.macho_linkedit.specs.Listing.{id_of_symbol, HasLength, AreListed}
use Rattle.macho_linkedit.specs.Symbols.{AreRowsWritten, IsTableWritten}
use Rattle.macho_linkedit.proofs.Rows.{table_entries, written_length, written_all}
use Rattle.macho_bytes.proofs.Members.{all_contains}
use Rattle.macho_symbol_tables.specs.steps.Rows.{IsObjectAt}
use Rattle.macho_symbol_tables.proofs.Lists.{map_more}
use Rattle.macho_symbol_tables.proofs.Numbered.{number_at}
use Rattle.macho_symbol_tables.proofs.Objects.{symbol_listed, names_fit}

-- a place in a list that is the table's
inside : (t : TableSymbols) (now : List TableSymbol) (n : ℕ) → now ≡ t.symbols.items → n < length now → n < length t.symbols.items
inside t now n same lt = omega (arith, lt, ap (λ (xs : List TableSymbol). length xs) same)

-- the symbol of a place, in a list that is the table's
same_item : (t : TableSymbols) (now : List TableSymbol) (n : ℕ) (d : TableSymbol) → now ≡ t.symbols.items → n < length now
    → get_or now n d ≡ get_or t.symbols.items n (get_or now n d)
same_item t now n d same lt =
    ap (λ (xs : List TableSymbol). get_or xs n d) same
    ∙ get_or_default t.symbols.items n d (get_or now n d) (omega (arith, lt, ap (λ (xs : List TableSymbol). length xs) same))

pub item_listed : (l : Link) (t : TableSymbols) (now : List TableSymbol) (n : ℕ) (d : TableSymbol) → AreListed l t → now ≡ t.symbols.items
    → n < length now
    → Contains (table_symbols l) (id_of_symbol (get_or now n d))
item_listed l t now n d are same lt =
    symbol_listed l t n (get_or now n d) are (omega (arith, lt, ap (λ (xs : List TableSymbol). length xs) same))
    (same_item t now n d same lt)

-- the bytes of its name are told
pub item_long : (l : Link) (t : TableSymbols) (now : List TableSymbol) (n : ℕ) (d : TableSymbol) → AreListed l t → now ≡ t.symbols.items
    → n < length now
    → HasLength l (get_or now n d)
item_long l t now n d are same lt =
    all_contains (HasLength l) t.symbols.items (get_or now n d) are.lengths_are
    (n, omega (arith, lt, ap (λ (xs : List TableSymbol). length xs) same), sym (same_item t now n d same lt))

-- the rows of the first symbols
abbrev pub rows_to : Link → Counts → Placed → TableSymbols → ℕ → List SymbolRow
rows_to l counts p t n = map (row_of l counts p) (take n (map id_of_symbol t.symbols.items))

-- the next of the listed symbols
next_id : (t : TableSymbols) (now : List TableSymbol) (n : ℕ) (d : TableSymbol) → now ≡ t.symbols.items → n < length now
    → id_of_symbol (get_or now n d) ≡ get_or (map id_of_symbol t.symbols.items) n (id_of_symbol (get_or now n d))
next_id t now n d same lt =
    ap id_of_symbol (same_item t now n d same lt)
    ∙ sym (get_or-map id_of_symbol t.symbols.items n (get_or now n d) (id_of_symbol (get_or now n d)) (inside t now n same lt))

-- its row
pub next_row : (l : Link) (counts : Counts) (p : Placed) (s : TableSymbol) (objects : List LinkedObject) (place : ℕ) (o : LinkedObject)
    (row : SymbolRow)
    → IsObjectAt objects s.file place → o ≡ get_or objects place o
    → row ≡ row_of l counts p (symbol_id o.number s.symbol) → row ≡ row_of l counts p (id_of_symbol s)
next_row l counts p s objects place o row at is row_is =
    row_is ∙ ap (λ (k : ℕ). row_of l counts p (symbol_id k s.symbol))
    (sym (number_at objects place o at.within ∙ ap (λ (x : LinkedObject). x.number) (sym is)) ∙ at.is)

-- There is room for a row with a name.
pub record HasRoom (w : SymbolWriter) (name out : List ℕ) : Type 0 where
  pub short : w.name < 2 ^ 32
  pub entry : w.entry + 16 ≤ w.strings
  pub behind : w.strings + w.name + length name < length out

pub row_fits : (l : Link) (counts : Counts) (p : Placed) (t : TableSymbols) (now : List TableSymbol) (n : ℕ) (d : TableSymbol)
    (row : SymbolRow) (w : SymbolWriter) (before out : List ℕ)
    → AreListed l t → t.strings < 2 ^ 32 → 16 * length t.symbols.items + t.strings ≤ length before
    → now ≡ t.symbols.items → n < length now
    → row ≡ row_of l counts p (id_of_symbol (get_or now n d))
    → AreRowsWritten (length t.symbols.items) (rows_to l counts p t n) w before out → HasRoom w row.name out
row_fits l counts p t now n d row w before out are short room same lt is old = record {
  short = omega (arith, old.name, fits, short);
  entry = omega (arith, old.entry, old.strings, table_entries (rows_to l counts p t n) old.table old.rows_are, many, low);
  behind = omega (
    arith,
    old.strings,
    old.name,
    fits,
    room,
    ap (λ (r : SymbolRow). length r.name) is,
    written_length (length t.symbols.items) (rows_to l counts p t n) w before out old,
  );
}
  where
    low : n < length t.symbols.items
    low = inside t now n same lt

    fits : length old.table.strings + (length (name_at l (id_of_symbol (get_or now n d))) + 1) ≤ t.strings
    fits = names_fit l counts p t n old.table (id_of_symbol (get_or now n d)) are low (next_id t now n d same lt) old.rows_are

    many : length (rows_to l counts p t n) ≤ n
    many = omega (
      arith,
      length-map (take n (map id_of_symbol t.symbols.items)) (row_of l counts p),
      length-take n (map id_of_symbol t.symbols.items),
    )

-- one row more
pub table_more : (l : Link) (counts : Counts) (p : Placed) (t : TableSymbols) (now : List TableSymbol) (n : ℕ) (d : TableSymbol)
    (row : SymbolRow) (w : SymbolWriter) (before out : List ℕ)
    → now ≡ t.symbols.items → n < length now → row ≡ row_of l counts p (id_of_symbol (get_or now n d))
    → AreRowsWritten (length t.symbols.items) (rows_to l counts p t n ++ row ∷ []) w before out
    → AreRowsWritten (length t.symbols.items) (rows_to l counts p t (n + 1)) w before out
table_more l counts p t now n d row w before out same lt is has =
    subst (λ (rows : List SymbolRow). AreRowsWritten (length t.symbols.items) rows w before out) (sym more)
    (subst (λ (r : SymbolRow). AreRowsWritten (length t.symbols.items) (rows_to l counts p t n ++ r ∷ []) w before out) is has)
  where
    more : rows_to l counts p t (n + 1) ≡ rows_to l counts p t n ++ row_of l counts p (id_of_symbol (get_or now n d)) ∷ []
    more = map_more (row_of l counts p) (map id_of_symbol t.symbols.items) n (id_of_symbol (get_or now n d))
        (omega (arith, inside t now n same lt, length-map t.symbols.items id_of_symbol)) (next_id t now n d same lt)

-- all rows
pub table_whole : (l : Link) (counts : Counts) (p : Placed) (t : TableSymbols) (now : List TableSymbol) (n : ℕ) (w : SymbolWriter)
    (before out : List ℕ) → AreListed l t
    → now ≡ t.symbols.items → length now ≤ n → AreRowsWritten (length t.symbols.items) (rows_to l counts p t n) w before out
    → IsTableWritten (symbol_rows l counts p) before out
unfolding symbol_rows
table_whole l counts p t now n w before out are same long has =
    written_all (length t.symbols.items) (map (row_of l counts p) (table_symbols l)) w before out
    (sym (length-map t.symbols.items id_of_symbol) ∙ ap (λ (ids : List SymbolId). length ids) are.symbols_are
    ∙ sym (length-map (table_symbols l) (row_of l counts p)))
    (subst (λ (ids : List SymbolId). AreRowsWritten (length t.symbols.items) (map (row_of l counts p) ids) w before out)
    (take_all n (map id_of_symbol t.symbols.items)
    (omega (arith, long, ap (λ (xs : List TableSymbol). length xs) same, length-map t.symbols.items id_of_symbol))
    ∙ are.symbols_are)
    has)
