-- The entries of rows, found one after the other. A table grows meanwhile, but an entry keeps its number and its name: so what was
-- found of the rows before stays right, and the numbers of the next row, and of the next file, come behind them.
use Rattle.std.proofs.Common.{◌≡◌, ℕ, ◌+◌, ◌<◌, inl, inr, List, [], ◌∷◌, ◌++◌, length, get_or, Vec, refl, ap, subst, sym, ◌∙◌, arith, append-nil, append_assoc, length-append}
use Rattle.std.proofs.lemmas.List.{get_or_append_left, length-map, map-append}
use Rattle.std.proofs.Math.Seq.{get_or-append_seam}
use Rattle.macho_symbol_names.specs.declared.table.Entry.{Entry}
use Rattle.macho_symbol_names.specs.Kept.{FileRows}
use Rattle.macho_symbol_names.specs.Events.{row_at, row_count}
use Rattle.macho_symbol_names.specs.Found.{IsFound, AreFoundIn, AreFound}
use Rattle.macho_symbol_names.specs.steps.Tables.{HaveGrown, IsAdded}
use Rattle.macho_symbol_names.specs.Tables.{IsEntryOf, entry_name, names_of}
use Rattle.macho_bytes.proofs.Comparing.{below_more}

-- entries whose names are the same, and some, and then others
pub same_grown : (files : List FileRows) (old new : List Entry) → names_of files new ≡ names_of files old → HaveGrown files old new
same_grown files old new same = record { more = []; names = same ∙ sym (append-nil (names_of files old)) }

pub both_grown : (files : List FileRows) (a b c : List Entry) → HaveGrown files a b → HaveGrown files b c → HaveGrown files a c
both_grown files a b c first then = record {
  more = first.more ++ then.more;
  names = then.names ∙ ap (λ ns. ns ++ then.more) first.names ∙ append_assoc (names_of files a) first.more then.more;
}

-- an entry that was added
added_names : (files : List FileRows) (old new : List Entry) (file row : ℕ) (added : IsAdded old new file row)
    → names_of files new ≡ names_of files old ++ entry_name files added.entry ∷ []
added_names files old new file row added = ap (names_of files) added.are ∙ map-append (entry_name files) old (added.entry ∷ [])

pub added_grown : (files : List FileRows) (old new : List Entry) (file row : ℕ) → IsAdded old new file row → HaveGrown files old new
added_grown files old new file row added =
    record { more = entry_name files added.entry ∷ []; names = added_names files old new file row added }

pub added_entry : (files : List FileRows) (old new : List Entry) (file row number : ℕ) → IsAdded old new file row → number ≡ length old
    → IsEntryOf files new (row_at files file row).name number
added_entry files old new file row number added last =
    let named : entry_name files added.entry ≡ (row_at files file row).name = rw (added.file_is, added.row_is) refl in (
      omega (arith, last, ap length added.are, length-append old (added.entry ∷ [])),
      ap (λ ns. get_or ns number []) (added_names files old new file row added)
          ∙ ap (λ j. get_or (names_of files old ++ entry_name files added.entry ∷ []) j [])
          (last ∙ sym (length-map old (entry_name files)))
          ∙ get_or-append_seam (names_of files old) (entry_name files added.entry) [] [] ∙ named,
    )

-- an entry keeps its number and its name
pub entry_stays : (files : List FileRows) (old new : List Entry) (name : List ℕ) (j : ℕ) → HaveGrown files old new
    → IsEntryOf files old name j → IsEntryOf files new name j
entry_stays files old new name j grown is =
    let inside : j < length (names_of files old) = omega (arith, is.0, length-map old (entry_name files)) in (
      omega
          (arith, inside, length-map new (entry_name files), ap length grown.names, length-append (names_of files old) grown.more),
      ap (λ ns. get_or ns j []) grown.names ∙ get_or_append_left (names_of files old) grown.more [] j inside ∙ is.1,
    )

pub rows_stay : (files : List FileRows) (old new : List Entry) (file count : ℕ) (xs : List ℕ) → HaveGrown files old new
    → AreFoundIn files old file count xs → AreFoundIn files new file count xs
rows_stay files old new file count xs grown found = record {
  long = found.long;
  each = λ k d h global. entry_stays files old new (row_at files file k).name (get_or xs k d) grown (found.each k d h global);
}

-- each element has what is asked of its place, the new one too
each_push : {X : Type 0} (P : ℕ → X → Type 0) (xs : List X) (x : X)
    → ((k : ℕ) (d : X) → k < length xs → P k (get_or xs k d)) → P (length xs) x
    → (k : ℕ) (d : X) → k < length (xs ++ x ∷ []) → P k (get_or (xs ++ x ∷ []) k d)
each_push P xs x all last k d h = elim (below_more k (length xs) (omega (arith, h, length-append xs (x ∷ [])))) [
  | inl before ↦ subst (P k) (sym (get_or_append_left xs (x ∷ []) d k before)) (all k d before)
  | inr same ↦
      subst (P k) (sym (ap (λ j. get_or (xs ++ x ∷ []) j d) same ∙ get_or-append_seam xs x [] d)) (subst (λ j. P j x) (sym same) last)
]

-- nothing is found of no rows, and of no files
pub no_row_found : (files : List FileRows) (entries : List Entry) (file : ℕ) (xs : List ℕ) → length xs ≡ 0
    → AreFoundIn files entries file 0 xs
no_row_found files entries file xs none = record { long = none; each = λ k d h. absurd (omega (arith, h)) }

pub no_file_found : {A : Type 0} (files : List FileRows) (entries : List Entry) (xs : List (Vec ℕ A)) → length xs ≡ 0
    → AreFound files entries 0 xs
no_file_found files entries xs none = record { long = none; each = λ k d h. absurd (omega (arith, h)) }

-- one row more
pub row_found : (files : List FileRows) (old new : List Entry) (file row n : ℕ) (xs : List ℕ) → AreFoundIn files old file row xs
    → HaveGrown files old new → IsFound files new file row n → AreFoundIn files new file (row + 1) (xs ++ n ∷ [])
row_found files old new file row n xs found grown next =
    let before = rows_stay files old new file row xs grown found in
    record {
      long = omega (arith, found.long, length-append xs (n ∷ []));
      each = λ k d h. each_push (IsFound files new file) xs n (λ j e g. before.each j e (omega (arith, g, found.long)))
          (subst (λ j. IsFound files new file j n) (sym found.long) next) k d (omega (arith, h, found.long, length-append xs (n ∷ [])));
    }

-- one file more
pub file_found : {A : Type 0} (files : List FileRows) (old new : List Entry) (file : ℕ) (v : Vec ℕ A) (xs : List (Vec ℕ A))
    → AreFound files old file xs → HaveGrown files old new → AreFoundIn files new file (row_count files file) v.items
    → AreFound files new (file + 1) (xs ++ v ∷ [])
file_found {A} files old new file v xs found grown next =
    let P : ℕ → Vec ℕ A → Type 0 = λ k w. AreFoundIn files new k (row_count files k) w.items in
    let before : (j : ℕ) (e : Vec ℕ A) → j < length xs → P j (get_or xs j e) =
    λ j e g. rows_stay files old new j (row_count files j) (get_or xs j e).items grown (found.each j e (omega (arith, g, found.long))) in
    let last : P (length xs) v = subst (λ j. P j v) (sym found.long) next in
    record {
      long = omega (arith, found.long, length-append xs (v ∷ []));
      each = λ k d h. each_push P xs v before last k d (omega (arith, h, found.long, length-append xs (v ∷ [])));
    }
