-- The symbol table as it is written, row by row.
--
-- The strings so far end where the next name begins, so a row more has its name there. Its entry is put over a place in front of
-- the strings, so the two puts can be made in the other order; and then each is put where a text ends that is there, which makes
-- one put of both. When all rows are written, the entries end where the strings begin: so these are one text, too.
use Rattle.std.proofs.Common.{◌≡◌, ℕ, ◌+◌, ◌*◌, ◌<◌, ◌≤◌, List, [], ◌∷◌, ◌++◌, length, refl, sym, ap, ◌∙◌, arith}
use Rattle.std.specs.Prelude.{sum_by, All}
use Rattle.std.specs.List.{flat_map}
use Rattle.std.proofs.lemmas.List.{length-append, length_push}
use Rattle.std.proofs.lemmas.List.Elements.{All-push, All-nil}
use Rattle.std.proofs.lemmas.List.Sums.{sum_by-cons}
use Rattle.macho_bytes.specs.Texts.{put}
use Rattle.macho_bytes.proofs.Puts.{put-put, put_nothing, length-put}
use Rattle.macho_bytes.proofs.Tables.{flat_map-more, length-table}
use Rattle.macho_records.specs.declared.symbols.SymtabEntry.{SymtabEntry}
use Rattle.macho_fixups.proofs.PutOrder.{put_swap}
use Rattle.macho_linkedit.specs.TableRows.{SymbolRow}
use Rattle.macho_linkedit.specs.declared.symbols.SymbolWriter.{SymbolWriter}
use Rattle.macho_linkedit.specs.Symbols.{SymbolTable, entry_for, entries_from, HasRows, table_text, AreRowsWritten, IsTableWritten}
use Rattle.macho_bytes.specs.Spellings.{spelling, ReadsBack}
use Rattle.macho_records.specs.Spellings.{symtab_entry_rows}

-- the bytes of a row's name with its NUL
abbrev pub name_size : SymbolRow → ℕ
name_size r = length r.name + 1

-- one row more
entries_more : (place : ℕ) (rows : List SymbolRow) (r : SymbolRow)
    → entries_from place (rows ++ r ∷ []) ≡ entries_from place rows ++ entry_for (place + sum_by name_size rows) r ∷ []
entries_more place [] r = ap (λ (n : ℕ). entry_for n r ∷ []) (omega arith)
entries_more place (x ∷ rows) r =
    ap (λ (es : List SymtabEntry). entry_for place x ∷ es)
    (entries_more (place + name_size x) rows r
    ∙ ap (λ (n : ℕ). entries_from (place + name_size x) rows ++ entry_for n r ∷ []) (omega (arith, sum_by-cons name_size x rows)))

-- the bytes of the names
pub names_long : (rows : List SymbolRow) → length (flat_map (λ r. r.name ++ 0 ∷ []) rows) ≡ sum_by name_size rows
names_long [] = refl
names_long (r ∷ rows) =
    omega (
      arith,
      length-append (r.name ++ 0 ∷ []) (flat_map (λ r. r.name ++ 0 ∷ []) rows),
      length-append r.name (0 ∷ []),
      names_long rows,
      sum_by-cons name_size r rows,
    )

rows_more : (rows : List SymbolRow) (r : SymbolRow) (t : SymbolTable) (e : SymtabEntry) → HasRows rows t
    → e ≡ entry_for (length t.strings) r
    → HasRows (rows ++ r ∷ []) (record { entries = t.entries ++ e ∷ []; strings = t.strings ++ (r.name ++ 0 ∷ []) })
rows_more rows r t e has is = record {
  entries_are =
      ap (λ (x : SymtabEntry). t.entries ++ x ∷ []) is ∙ ap
      (λ (es : List SymtabEntry). es ++ entry_for (length t.strings) r ∷ []) has.entries_are
      ∙ ap (λ (n : ℕ). entries_from 1 rows ++ entry_for n r ∷ []) (omega (arith, ap length has.strings_are, names_long rows))
      ∙ sym (entries_more 1 rows r);
  strings_are =
      ap (λ (t : List ℕ). t ++ (r.name ++ 0 ∷ [])) has.strings_are
      ∙ ap (λ (t : List ℕ). 0 ∷ t) (sym (flat_map-more (λ r. r.name ++ 0 ∷ []) rows r));
}

-- a table with rows has an entry for each, and their names behind a NUL
pub entries_many : (place : ℕ) (rows : List SymbolRow) → length (entries_from place rows) ≡ length rows
entries_many place [] = refl
entries_many place (r ∷ rows) = omega (arith, entries_many (place + name_size r) rows)

pub table_entries : (rows : List SymbolRow) (t : SymbolTable) → HasRows rows t → length t.entries ≡ length rows
table_entries rows t has = ap length has.entries_are ∙ entries_many 1 rows

pub table_strings : (rows : List SymbolRow) (t : SymbolTable) → HasRows rows t → length t.strings ≡ 1 + sum_by name_size rows
table_strings rows t has = omega (arith, ap length has.strings_are, names_long rows)

-- entries that read back have 16 bytes each
entries_long : (entries : List SymtabEntry) → All (ReadsBack symtab_entry_rows) entries
    → length (flat_map (spelling symtab_entry_rows) entries) ≡ 16 * length entries
entries_long entries back = length-table (spelling symtab_entry_rows) 16 entries (record { long = λ k d lt. (back k d lt).long })

-- no row is written yet: the NUL in front of the names is
pub written_none : (symbols : ℕ) (w : SymbolWriter) (before now : List ℕ) → w.entry ≡ 0 → w.strings ≡ 16 * symbols → w.name ≡ 1
    → w.strings < length before → now ≡ put w.strings (0 ∷ []) before → AreRowsWritten symbols [] w before now
written_none symbols w before now entry strings name room is = record {
  table = record { entries = []; strings = 0 ∷ [] };
  rows_are = record { entries_are = refl; strings_are = refl };
  entry = entry;
  strings = strings;
  name = name;
  room = omega (arith, entry);
  inside = omega (arith, name, room);
  is = is ∙ ap (put w.strings (0 ∷ [])) (sym (put_nothing 0 before (omega arith)));
  back = All-nil (ReadsBack symtab_entry_rows);
}

-- what is written keeps the length
pub written_length : (symbols : ℕ) (rows : List SymbolRow) (w : SymbolWriter) (before now : List ℕ)
    → AreRowsWritten symbols rows w before now → length now ≡ length before
written_length symbols rows w before now old =
    let x : List ℕ = flat_map (spelling symtab_entry_rows) old.table.entries in
    let front : length (put 0 x before) ≡ length before = length-put 0 x before
    (omega (arith, entries_long old.table.entries old.back, old.entry, old.room, old.inside)) in
    ap length old.is ∙ length-put w.strings old.table.strings (put 0 x before) (omega (arith, front, old.name, old.inside)) ∙ front

-- Two texts that stand apart both grow: first the one in front, then the other one, by a text and what follows that.
both_grow : (at front behind : ℕ) (x more y text end before : List ℕ) → front ≡ length x → front + length more ≤ at
    → behind ≡ at + length y → behind + length text + length end ≤ length before
    → put (behind + length text) end (put behind text (put front more (put at y (put 0 x before))))
    ≡ put at (y ++ (text ++ end)) (put 0 (x ++ more) before)
both_grow at front behind x more y text end before long apart next fits =
    put-put behind (behind + length text) text end (put front more (put at y (put 0 x before))) refl (omega (arith, all, fits))
    ∙ ap (put behind (text ++ end)) (put_swap front at more y (put 0 x before) apart (omega (arith, first, next, fits))
    ∙ ap (put at y) (put-put 0 front x more before (omega (arith, long)) (omega (arith, long, apart, next, fits))))
    ∙ put-put at behind y (text ++ end) (put 0 (x ++ more) before) next (omega (arith, second, length-append text end, fits))
  where
    first : length (put 0 x before) ≡ length before
    first = length-put 0 x before (omega (arith, long, apart, next, fits))

    with_y : length (put at y (put 0 x before)) ≡ length before
    with_y = length-put at y (put 0 x before) (omega (arith, first, next, fits)) ∙ first

    all : length (put front more (put at y (put 0 x before))) ≡ length before
    all = length-put front more (put at y (put 0 x before)) (omega (arith, with_y, apart, next, fits)) ∙ with_y

    second : length (put 0 (x ++ more) before) ≡ length before
    second = length-put 0 (x ++ more) before (omega (arith, length-append x more, long, apart, next, fits))

-- and one row more
pub written_more : (symbols : ℕ) (rows : List SymbolRow) (r : SymbolRow) (e : SymtabEntry) (w next : SymbolWriter)
    (before out with_entry with_name now : List ℕ) → AreRowsWritten symbols rows w before out → e ≡ entry_for w.name r
    → ReadsBack symtab_entry_rows e → w.entry + 16 ≤ w.strings → w.strings + w.name + length r.name < length out
    → with_entry ≡ put w.entry (spelling symtab_entry_rows e) out → with_name ≡ put (w.strings + w.name) r.name with_entry
    → now ≡ put (w.strings + w.name + length r.name) (0 ∷ []) with_name
    → next.entry ≡ w.entry + 16 → next.strings ≡ w.strings → next.name ≡ w.name + (length r.name + 1)
    → AreRowsWritten symbols (rows ++ r ∷ []) next before now
written_more symbols rows r e w next before out first second now old e_is good space fits put_entry put_name put_end entry strings name =
    record {
      table = record { entries = old.table.entries ++ e ∷ []; strings = old.table.strings ++ (r.name ++ 0 ∷ []) };
      rows_are = rows_more rows r old.table e old.rows_are (e_is ∙ ap (λ (n : ℕ). entry_for n r) old.name);
      entry = omega (arith, entry, old.entry, length_push old.table.entries e);
      strings = strings ∙ old.strings;
      name =
          omega (
            arith,
            name,
            old.name,
            length-append old.table.strings (r.name ++ 0 ∷ []),
            length-append r.name (0 ∷ []),
          );
      room = omega (arith, entry, strings, space);
      inside = omega (arith, strings, name, fits, same);
      is =
          put_end ∙ ap (put (w.strings + w.name + length r.name) (0 ∷ [])) (put_name ∙ ap (put (w.strings + w.name) r.name)
          (put_entry ∙ ap (put w.entry (spelling symtab_entry_rows e)) old.is))
          ∙ both_grow w.strings w.entry (w.strings + w.name) x (spelling symtab_entry_rows e) old.table.strings r.name (0 ∷ []) before
          (omega (arith, old.entry, long)) (omega (arith, good.long, space)) (omega (arith, old.name)) (omega (arith, fits, same))
          ∙ ap (λ (n : ℕ). put n (old.table.strings ++ (r.name ++ 0 ∷ [])) (put 0 (x ++ spelling symtab_entry_rows e) before)) (sym strings)
          ∙ ap (λ (t : List ℕ). put next.strings (old.table.strings ++ (r.name ++ 0 ∷ [])) (put 0 t before))
          (sym (flat_map-more (spelling symtab_entry_rows) old.table.entries e));
      back = All-push (ReadsBack symtab_entry_rows) old.table.entries e old.back good;
    }
  where
    x : List ℕ
    x = flat_map (spelling symtab_entry_rows) old.table.entries

    long : length x ≡ 16 * length old.table.entries
    long = entries_long old.table.entries old.back

    same : length out ≡ length before
    same = written_length symbols rows w before out old

-- all of them are the table
pub written_all : (symbols : ℕ) (rows : List SymbolRow) (w : SymbolWriter) (before now : List ℕ) → symbols ≡ length rows
    → AreRowsWritten symbols rows w before now
    → IsTableWritten rows before now
unfolding table_text
written_all symbols rows w before now many old = record {
  table = old.table;
  rows_are = old.rows_are;
  is = old.is ∙ put-put 0 w.strings (flat_map (spelling symtab_entry_rows) old.table.entries) old.table.strings before
      (omega (arith, old.strings, many, table_entries rows old.table old.rows_are, entries_long old.table.entries old.back))
      (omega (arith, old.inside, old.name));
  back = old.back;
}
