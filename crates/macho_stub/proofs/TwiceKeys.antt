-- A key that stands twice, as it is read. A line with a key and its value is one of which an entry is spelled, so what
-- the reading says of the line serves for `StandsTwice`, and the other way round.
-- `StandsTwice` speaks of a key that is spelled on the line. It is read, with the value behind it (`second_key`); and a line that is read
-- with a key has one spelled on it, which is the same (`stands_twice`). What may stand there in place of the line is spoken of by the
-- key alone.
use Rattle.std.proofs.Common.{◌≡◌, ℕ, ◌+◌, false, List, ◌∷◌, ◌++◌, length, Ok, sym, ap, ◌∙◌, subst}
use Rattle.macho_stub_lines.specs.Bytes.{is_key_byte, colon, indent, unspaced, has_barred}
use Rattle.macho_stub_lines.specs.Spelling.{EntryTree, behind_bytes}
use Rattle.macho_stub_lines.specs.Keys.{Entry, entry_at}
use Rattle.macho_stub.specs.Grammar.{IsEntry}
use Rattle.macho_stub.specs.Order.{MayStand, StandsTwice, in_column}
use Rattle.macho_stub.specs.steps.Order.{unread_key}
use Rattle.macho_stub_lines.proofs.EntryTrees.{entry_found, entry_reads}
use Rattle.macho_stub_lines.proofs.Unplaced.{value_behind, spaced_of, value_alone, behind_tree}

-- what an entry says
abbrev pub said_by : List ℕ → List ℕ → Entry
said_by key behind = record { key = key; value = value_behind behind }

abbrev pub said_of : (first : List (List ℕ)) (line : List ℕ) → StandsTwice first line → Entry
said_of first line t = said_by t.key t.behind

-- a key with what stands behind it is read
key_reads : (n : ℕ) (key behind : List ℕ) → IsEntry key behind → entry_at n (key ++ colon ∷ behind) ≡ Ok (said_by key behind)
unfolding is_key_byte
key_reads n key behind i =
    let b = behind_tree behind i.spaced in
    let tree : EntryTree = record { key = key; behind = b.0 } in
    ap (λ (x : List ℕ). entry_at n (key ++ colon ∷ x)) (sym b.2)
    ∙ entry_reads n tree (record { some = i.some; bytes = i.bytes; behind = b.1 })
    ∙ ap (λ (v : List ℕ). Ok (record { key = key; value = v })) (sym (value_alone b.0 b.1) ∙ ap value_behind b.2)

-- the line of a second key is read
pub second_key : (first : List (List ℕ)) (line : List ℕ) (t : StandsTwice first line)
    → entry_at (length first + 1) (unspaced line) ≡ Ok (said_of first line t)
second_key first line t = ap (entry_at (length first + 1)) t.spelled ∙ key_reads (length first + 1) t.key t.behind t.is_key

-- and a line that is read has a second key, where another may stand and it may not
pub stands_twice : (first : List (List ℕ)) (line : List ℕ) (said : Entry) → has_barred line ≡ false
    → entry_at (length first + 1) (unspaced line) ≡ Ok said → MayStand first (in_column (indent line) unread_key)
    → ((rest : List ℕ) → MayStand first (in_column (indent line) (said.key ++ colon ∷ rest)) → ⊥) → StandsTwice first line
unfolding is_key_byte
stands_twice first line said clean e another not_again =
    let f = entry_found (length first + 1) (unspaced line) said e in
    record {
      clean = clean;
      key = f.0.key;
      behind = behind_bytes f.0.behind;
      is_key = record { some = f.1.some; bytes = f.1.bytes; spaced = spaced_of f.0.behind f.1.behind };
      spelled = f.2;
      another = another;
      not_again = λ rest m.
          let M : List ℕ → Type 0 = λ key. MayStand first (in_column (indent line) (key ++ colon ∷ rest)) in
          not_again rest (subst M (sym f.3) m);
    }
