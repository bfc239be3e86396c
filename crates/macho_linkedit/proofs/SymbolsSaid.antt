-- The symbol table that stands in a file says the entries of its link.
--
-- The file has one command for both tables, so the symbols and the strings that are read begin where the command tells. Entry
-- k stands k times 16 bytes behind the first and reads back.
--
-- So the name that is read of each entry is that of its symbol: it stands in the strings behind those before it, up to its NUL. The
-- names are those of symbols of objects, which are read up to their first NUL and so hold none.
use Rattle.std.proofs.Common.{◌≡◌, ◌≢◌, ℕ, zero, suc, ◌+◌, ◌*◌, ◌<◌, ◌==◌, Bool, true, false, if◌then◌else◌, List, [], ◌∷◌, ◌++◌, map, take, drop, length, get_or, slice_range, refl, sym, ap, ◌∙◌, arith}
use Rattle.std.specs.Prelude.{All, sum_by}
use Rattle.std.specs.List.{flat_map, range_with_len}
use Rattle.std.proofs.lemmas.Bool.Decides.{nat_tests}
use Rattle.std.proofs.lemmas.List.{length-map, get_or-map}
use Rattle.std.proofs.lemmas.List.Elements.{All-nil}
use Rattle.std.proofs.lemmas.List.Folds.{flat_map-map}
use Rattle.std.proofs.lemmas.List.FromFn.{length-range_with_len, get_or-range_with_len, fill_by_all}
use Rattle.std.proofs.lemmas.List.Sums.{sum_by-cons}
use Rattle.macho_bytes.specs.Texts.{Stands, name_of}
use Rattle.macho_bytes.specs.Layouts.{reading}
use Rattle.macho_bytes.proofs.Numbers.{stands-front, stands-back}
use Rattle.macho_bytes.proofs.Tables.{table-stands, length-table}
use Rattle.macho_records.specs.Layouts.{symtab_command, symtab_entry}
use Rattle.macho_records.specs.declared.symbols.SymtabEntry.{SymtabEntry}
use Rattle.macho_records.specs.declared.constants.TheConstants.{LC_SYMTAB}
use Rattle.macho_model.specs.Commands.{Command, numbered}
use Rattle.macho_model.specs.Objects.{symtab_of, num_symbols, symbol_place, symbol_at, strings_of, symbol_name}
use Rattle.macho_model.specs.Links.{Link, object_of}
use Rattle.macho_model.specs.Resolution.{SymbolId, name_at}
use Rattle.macho_model.specs.Images.{Table, symbol_tables_of, string_tables_of}
use Rattle.macho_model.specs.SymbolTable.{table_symbols}
use Rattle.macho_model.specs.SymbolEntries.{entry_of_symbol, placed_entries, symbol_entries, strings_text, SymbolsSay}
use Rattle.macho_model.specs.Lists.{of_first}
use Rattle.macho_model.specs.declared.placed.Counts.{Counts}
use Rattle.macho_model.specs.Placement.{Placed}
use Rattle.macho_linkedit.specs.TableRows.{SymbolRow, row_of, symbol_rows}
use Rattle.macho_linkedit.specs.Symbols.{SymbolTable, entries_from, table_text, SymbolsStand}
use Rattle.macho_linkedit.specs.Laws.{SymbolsAreSaid}
use Rattle.macho_linkedit.proofs.NamesStand.{name_stands, whole, name_read, read_plain}
use Rattle.macho_bytes.specs.Spellings.{spelling}
use Rattle.macho_records.specs.Spellings.{symtab_entry_rows}
use Rattle.macho_model.specs.steps.Images.{symbols_range, strings_range}

-- Where the command of both tables tells that they stand.
record IsTold (b : List ℕ) (symbols strings : Table) : Type 0 where
  symoff : (symtab_of b).symoff ≡ symbols.at
  nsyms : 16 * (symtab_of b).nsyms ≡ symbols.size
  stroff : (symtab_of b).stroff ≡ strings.at
  strsize : (symtab_of b).strsize ≡ strings.size

-- the place of the first of some commands
abbrev first_place : List Command → ℕ
first_place cs = of_first 0 (λ (c : Command). c.at) cs

told : (b : List ℕ) (symbols strings : Table) → symbol_tables_of b ≡ symbols ∷ [] → string_tables_of b ≡ strings ∷ []
    → IsTold b symbols strings
unfolding symbol_tables_of string_tables_of symtab_of
told b symbols strings one other = let f = found
    (numbered LC_SYMTAB b) one other in record { symoff = f.0; nsyms = f.1; stroff = f.2; strsize = f.3 }
  where
    -- what the first command tells
    first : (c : Command) → symbols_range b c ≡ symbols → strings_range b c ≡ strings → (cs : List Command) → first_place cs ≡ c.at
        → ((reading symtab_command b (first_place cs)).symoff ≡ symbols.at) ×
        (16 * (reading symtab_command b (first_place cs)).nsyms ≡ symbols.size)
        × ((reading symtab_command b (first_place cs)).stroff ≡ strings.at) ×
        ((reading symtab_command b (first_place cs)).strsize ≡ strings.size)
    first c is also cs at = (
      ap (λ (n : ℕ). (reading symtab_command b n).symoff) at ∙ ap (λ (t : Table). t.at) is,
      ap (λ (n : ℕ). 16 * (reading symtab_command b n).nsyms) at ∙ ap (λ (t : Table). t.size) is,
      ap (λ (n : ℕ). (reading symtab_command b n).stroff) at ∙ ap (λ (t : Table). t.at) also,
      ap (λ (n : ℕ). (reading symtab_command b n).strsize) at ∙ ap (λ (t : Table). t.size) also,
    )

    found : (cs : List Command) → map (symbols_range b) cs ≡ symbols ∷ [] → map (strings_range b) cs ≡ strings ∷ []
        → ((reading symtab_command b (first_place cs)).symoff ≡ symbols.at) ×
        (16 * (reading symtab_command b (first_place cs)).nsyms ≡ symbols.size)
        × ((reading symtab_command b (first_place cs)).stroff ≡ strings.at) ×
        ((reading symtab_command b (first_place cs)).strsize ≡ strings.size)
    found [] is also = cc
    found (c ∷ cs) is also =
        let a : symbols_range b c ≡ symbols = ap (λ (ts : List Table). get_or ts 0 symbols) is in
        let z : strings_range b c ≡ strings = ap (λ (ts : List Table). get_or ts 0 strings) also in
        first c a z (c ∷ cs) refl

-- names of symbols hold no NUL
name_plain : (l : Link) (s : SymbolId) → All (λ c. c ≢ 0) (name_at l s)
unfolding symbol_name
name_plain l s = by ((symbol_at (object_of l s.file) s.symbol).n_strx == 0)
  where
    by : (b : Bool)
        → All (λ c. c ≢ 0) (if b then [] else name_of
        (drop (symbol_at (object_of l s.file) s.symbol).n_strx (strings_of (object_of l s.file))))
    by true = All-nil (λ c. c ≢ 0)
    by false = read_plain (drop (symbol_at (object_of l s.file) s.symbol).n_strx (strings_of (object_of l s.file)))

-- the entries of rows are those of their symbols
same_entries : (l : Link) (counts : Counts) (p : Placed) (place : ℕ) (ss : List SymbolId)
    → entries_from place (map (row_of l counts p) ss) ≡ placed_entries l counts p place ss
same_entries l counts p place [] = refl
same_entries l counts p place (s ∷ ss) =
    ap (λ (es : List SymtabEntry). entry_of_symbol l counts p place s ∷ es)
    (same_entries l counts p (place + (length (name_at l s) + 1)) ss)

-- What is read of both tables.
record AreRead (b : List ℕ) (t : SymbolTable) : Type 0 where
  entries : map (symbol_at b) (range_with_len 0 (num_symbols b)) ≡ t.entries
  strings : strings_of b ≡ t.strings

are_read : (b : List ℕ) (at : ℕ) (t : SymbolTable) → SymbolsStand b at t → AreRead b t
unfolding num_symbols symbol_place symbol_at strings_of table_text
are_read b at t stands = record {
  entries =
      sym (fill_by_all (λ (k : ℕ). reading symtab_entry b ((symtab_of b).symoff + 16 * k)) t.entries (symtab_of b).nsyms none count
      (λ k lt. sym (entry k (omega (arith, lt, count)))));
  strings =
      ap (λ (n : ℕ). slice_range b n (n + (symtab_of b).strsize)) tells.stroff
      ∙ ap (λ (n : ℕ). slice_range b (at + 16 * length t.entries) (at + 16 * length t.entries + n)) tells.strsize
      ∙ behind.same;
}
  where
    none : SymtabEntry
    none = record { n_strx = 0; n_type = 0; n_sect = 0; n_desc = 0; n_value = 0 }

    tells : IsTold b (record { at = at; size = 16 * length t.entries })
        (record { at = at + 16 * length t.entries; size = length t.strings })
    tells = told b (record { at = at; size = 16 * length t.entries })
        (record { at = at + 16 * length t.entries; size = length t.strings }) stands.symbols stands.strings

    count : length t.entries ≡ (symtab_of b).nsyms
    count = omega (arith, tells.nsyms)

    text : List ℕ
    text = flat_map (spelling symtab_entry_rows) t.entries

    long : length text ≡ 16 * length t.entries
    long = length-table (spelling symtab_entry_rows) 16 t.entries (record { long = λ k d lt. (stands.back k d lt).long })

    behind : Stands b (record { at = at + 16 * length t.entries; text = t.strings })
    behind = stands-back b at (at + 16 * length t.entries) text t.strings (omega (arith, long)) stands.text

    entry : (k : ℕ) → k < length t.entries
        → reading symtab_entry b ((symtab_of b).symoff + 16 * k) ≡ get_or t.entries k none
    entry k inside =
        let there = table-stands (spelling symtab_entry_rows) 16 t.entries at k none b
        (record { long = λ j x h. (stands.back j x h).long }) inside
        (stands-front b at text t.strings stands.text) in
        ap (λ (n : ℕ). reading symtab_entry b (n + 16 * k)) tells.symoff
        ∙ (stands.back k none inside).back b (at + 16 * k) there

-- THE symbols.
pub symbols_are_said : SymbolsAreSaid
unfolding symbol_rows symbol_entries strings_text
symbols_are_said l counts b p at t has stands =
    let read = are_read b at t stands in
    record {
      entries = read.entries ∙ has.entries_are ∙ same_entries l counts p 1 (table_symbols l);
      strings =
          read.strings ∙ has.strings_are
          ∙ ap (λ (x : List ℕ). 0 ∷ x)
          (flat_map-map (λ (r : SymbolRow). r.name ++ 0 ∷ []) (row_of l counts p) (table_symbols l));
    }

-- the places of the names
entries_long : (l : Link) (counts : Counts) (p : Placed) (place : ℕ) (ss : List SymbolId)
    → length (placed_entries l counts p place ss) ≡ length ss
entries_long l counts p place [] = refl
entries_long l counts p place (s ∷ ss) = omega (arith, entries_long l counts p (place + (length (name_at l s) + 1)) ss)

place_there : (l : Link) (counts : Counts) (p : Placed) (place : ℕ) (ss : List SymbolId) (k : ℕ) (d : SymtabEntry) → k < length ss
    → (get_or (placed_entries l counts p place ss) k d).n_strx ≡ place + sum_by (λ s. length (name_at l s) + 1) (take k ss)
place_there l counts p place [] k d lt = absurd (omega arith)
place_there l counts p place (s ∷ ss) zero d lt = omega arith
place_there l counts p place (s ∷ ss) (suc k) d lt =
    omega (
      arith,
      place_there l counts p (place + (length (name_at l s) + 1)) ss k d (omega arith),
      sum_by-cons (λ (t : SymbolId). length (name_at l t) + 1) s (take k ss),
    )

-- THE names: what is read of each entry is the name of its symbol.
pub names_are_said : (l : Link) (counts : Counts) (b : List ℕ) (p : Placed) → SymbolsSay l counts b p
    → map (symbol_name b) (range_with_len 0 (num_symbols b)) ≡ map (name_at l) (table_symbols l)
unfolding symbol_entries strings_text symbol_name
names_are_said l counts b p says =
    sym (fill_by_all (symbol_name b) (map (name_at l) (table_symbols l)) (num_symbols b) []
    (length-map (table_symbols l) (name_at l) ∙ sym count) (λ k lt. sym (name k (omega (arith, lt, count)))))
  where
    strings : List ℕ
    strings = 0 ∷ flat_map (λ s. name_at l s ++ 0 ∷ []) (table_symbols l)

    count : num_symbols b ≡ length (table_symbols l)
    count =
        omega (
          arith,
          ap length says.entries,
          length-map (range_with_len 0 (num_symbols b)) (symbol_at b),
          length-range_with_len 0 (num_symbols b),
          entries_long l counts p 1 (table_symbols l),
        )

    name : (k : ℕ) → k < length (table_symbols l) → symbol_name b k ≡ get_or (map (name_at l) (table_symbols l)) k []
    name k lt =
        let d : SymbolId = record { file = 0; symbol = 0 } in
        let s : SymbolId = get_or (table_symbols l) k d in
        let place : ℕ = 1 + sum_by (λ t. length (name_at l t) + 1) (take k (table_symbols l)) in
        let inside : k < length (range_with_len 0 (num_symbols b)) = omega (arith, lt, count, length-range_with_len 0 (num_symbols b)) in
        let at : get_or (range_with_len 0 (num_symbols b)) k 0 ≡ k = omega
        (arith, get_or-range_with_len 0 (num_symbols b) k 0 (omega (arith, lt, count))) in
        let here : get_or (map (symbol_at b) (range_with_len 0 (num_symbols b))) k (symbol_at b k) ≡ symbol_at b k =
        get_or-map (symbol_at b) (range_with_len 0 (num_symbols b)) k 0 (symbol_at b k) inside ∙ ap (symbol_at b) at in
        let strx : (symbol_at b k).n_strx ≡ place =
        ap (λ (e : SymtabEntry). e.n_strx)
        (sym here ∙ ap (λ (es : List SymtabEntry). get_or es k (symbol_at b k)) says.entries)
        ∙ place_there l counts p 1 (table_symbols l) k (symbol_at b k) lt in
        let stands : Stands strings (record { at = place; text = name_at l s ++ 0 ∷ [] }) =
        name_stands (name_at l) (table_symbols l) d strings 1 k lt
        (stands-back strings 0 1 (0 ∷ []) (flat_map (λ s. name_at l s ++ 0 ∷ []) (table_symbols l)) refl (whole strings)) in
        let some : (place == 0) ≡ false = grind (arith, nat_tests) in
        let skip : (if place == 0 then [] else name_of (drop place (strings_of b))) ≡ name_of (drop place (strings_of b)) = rw some refl in
        ap (λ (n : ℕ). if n == 0 then [] else name_of (drop n (strings_of b))) strx ∙ skip
        ∙ ap (λ (W : List ℕ). name_of (drop place W)) says.strings
        ∙ name_read strings (name_at l s) place stands (name_plain l s)
        ∙ sym (get_or-map (name_at l) (table_symbols l) k d [] lt)
