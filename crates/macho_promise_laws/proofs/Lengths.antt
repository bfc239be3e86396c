-- How long the symbol table and the head are, by what a link counts; and two texts that stand one behind the other.
use Rattle.std.proofs.Common.{◌≡◌, ℕ, suc, ◌+◌, ◌-◌, ◌*◌, ◌<◌, ◌≤◌, ◌⊎◌, inl, inr, List, [], ◌∷◌, ◌++◌, map, length, get_or, sum_by, refl, sym, ap, ◌∙◌, arith, All}
use Rattle.std.specs.List.{flat_map}
use Rattle.std.proofs.lemmas.Bool.{cases_lt}
use Rattle.std.proofs.lemmas.List.Sums.{sum_by-cons}
use Rattle.std.proofs.lemmas.List.{length-append, length-map, get_or_append_left, get_or-append-add}
use Rattle.std.proofs.lemmas.List.Edits.{get_or-between}
use Rattle.macho_bytes.specs.Layouts.{size_of}
use Rattle.macho_bytes.specs.Texts.{Part, end_of, Stands}
use Rattle.macho_bytes.proofs.Puts.{stands_by_bytes}
use Rattle.macho_records.specs.Layouts.{symtab_entry, mach_header}
use Rattle.macho_records.specs.declared.symbols.SymtabEntry.{SymtabEntry}
use Rattle.macho_model.specs.declared.placed.Counts.{Counts}
use Rattle.macho_model.specs.Links.{Link}
use Rattle.macho_model.specs.Placement.{Placed}
use Rattle.macho_model.specs.Resolution.{SymbolId, name_at}
use Rattle.macho_model.specs.Commands.{commands_end, header_of}
use Rattle.macho_model.specs.HeadCommands.{header_for, commands_for, size_said, HeadCommand}
use Rattle.macho_model.specs.SymbolTable.{table_symbols}
use Rattle.macho_linkedit.specs.TableRows.{SymbolRow, row_of, symbol_rows}
use Rattle.macho_commands.proofs.Texts.{length-flat_map_same}
use Rattle.macho_promise.specs.Sizes.{AreCounts, counts_with, text_size}
use Rattle.macho_linkedit.specs.Symbols.{SymbolTable, entries_from, strings_of_rows, HasRows}
use Rattle.macho_linkedit.proofs.Rows.{names_long, name_size, entries_many}
use Rattle.macho_head.specs.Heads.{AreHeadParts, head_bytes}
use Rattle.macho_head.specs.declared.commands.HeadParts.{HeadParts}
use Rattle.macho_head.proofs.Joined.{parts_said}
use Rattle.macho_bytes.specs.Spellings.{spelling, ReadsBack}
use Rattle.macho_records.specs.Spellings.{symtab_entry_rows}

-- a table with the rows of a link has as many entries as are counted
pub symbols_counted : (l : Link) (counts : Counts) (p : Placed) (t : SymbolTable) → AreCounts l counts → HasRows (symbol_rows l counts p) t
    → length t.entries ≡ counts.symbols
unfolding symbol_rows counts_with
symbols_counted l counts p t counted has =
    ap length has.entries_are ∙ entries_many 1 (map (row_of l counts p) (table_symbols l))
    ∙ length-map (table_symbols l) (row_of l counts p)
    ∙ sym (ap (λ (c : Counts). c.symbols) counted.are)

sizes_same : (l : Link) (counts : Counts) (p : Placed) (ss : List SymbolId)
    → sum_by name_size (map (row_of l counts p) ss) ≡ sum_by (λ s. text_size (name_at l s)) ss
sizes_same l counts p [] = refl
sizes_same l counts p (s ∷ ss) =
    sum_by-cons name_size (row_of l counts p s) (map (row_of l counts p) ss)
    ∙ ap (λ (n : ℕ). text_size (name_at l s) + n) (sizes_same l counts p ss)
    ∙ sym (sum_by-cons (λ (s : SymbolId). text_size (name_at l s)) s ss)

-- and as many bytes of strings
pub strings_counted : (l : Link) (counts : Counts) (p : Placed) (t : SymbolTable) → AreCounts l counts → HasRows (symbol_rows l counts p) t
    → length t.strings ≡ counts.strings
unfolding symbol_rows counts_with
strings_counted l counts p t counted has =
    let rows : length (flat_map (λ (r : SymbolRow). r.name ++ 0 ∷ []) (map (row_of l counts p) (table_symbols l)))
    ≡ sum_by (λ (s : SymbolId). text_size (name_at l s)) (table_symbols l) =
    names_long (map (row_of l counts p) (table_symbols l)) ∙ sizes_same l counts p (table_symbols l) in
    let told : counts.strings ≡ 1 + sum_by (λ (s : SymbolId). text_size (name_at l s)) (table_symbols l) =
    ap (λ (c : Counts). c.strings) counted.are in
    let long : length t.strings ≡ length (strings_of_rows (map (row_of l counts p) (table_symbols l))) = ap length has.strings_are in
    omega (arith, rows, told, long)

pub symbols_long : (entries : List SymtabEntry) → All (ReadsBack symtab_entry_rows) entries
    → length (flat_map (spelling symtab_entry_rows) entries) ≡ size_of symtab_entry * length entries
symbols_long entries back = length-flat_map_same (spelling symtab_entry_rows) (size_of symtab_entry) entries (λ i d lt. (back i d lt).long)

-- the load commands that a file tells end where the text of its head does
pub head_ends : (l : Link) (counts : Counts) (uuid : List ℕ) (p : Placed) (h : HeadParts) (trie : ℕ) (b : List ℕ)
    → AreHeadParts l counts uuid p h
    → h.trie_size ≡ trie → header_of b ≡ header_for l p (commands_for l counts p uuid trie) → commands_end b ≡ head_bytes p h
unfolding commands_end header_for
head_ends l counts uuid p h trie b are is header =
    ap (λ (n : ℕ). size_of mach_header + n)
    (ap (λ m. m.sizeofcmds) header ∙ ap (λ (cs : List HeadCommand). sum_by size_said cs)
    (ap (λ (n : ℕ). commands_for l counts p uuid n) (sym is) ∙ sym (parts_said l counts uuid p h are)))

-- two texts that stand one behind the other stand as one
pub stands_joined : (b : List ℕ) (at next : ℕ) (x y : List ℕ) → next ≡ at + length x → Stands b (record { at = at; text = x })
    → Stands b (record { at = next; text = y })
    → Stands b (record { at = at; text = x ++ y })
stands_joined b at next x y is first second =
    stands_by_bytes b (record { at = at; text = x ++ y }) (omega (arith, second.within, is, length-append x y))
    (λ i lt. by i lt (cases_lt i (length x)))
  where
    here : (q : Part) (i : ℕ) → Stands b q → i < length q.text → get_or b (q.at + i) 0 ≡ get_or q.text i 0
    here q i stands lt =
        sym (get_or-between b q.at (end_of q) i 0 (omega (arith, lt))) ∙ ap (λ (t : List ℕ). get_or t i 0) stands.same

    by : (i : ℕ) → i < length (x ++ y) → (i < length x) ⊎ (length x ≤ i) → get_or b (at + i) 0 ≡ get_or (x ++ y) i 0
    by i lt (inl low) = here (record { at = at; text = x }) i first low ∙ sym (get_or_append_left x y 0 i low)
    by i lt (inr high) =
        ap (λ (k : ℕ). get_or b k 0) (omega (arith, is, high))
        ∙ here (record { at = next; text = y }) (i - length x) second (omega (arith, lt, high, length-append x y))
        ∙ sym (get_or-append-add x y (i - length x) 0) ∙ ap (λ (k : ℕ). get_or (x ++ y) k 0) (omega (arith, high))
