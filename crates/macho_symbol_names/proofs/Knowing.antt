-- What a table knows, after one event more. An event of no name changes nothing. An event of a new name gets an entry of
-- its own, an event of a known name improves that name's entry or doesn't; for every other name nothing changes.
use Rattle.std.proofs.Common.{◌≡◌, ℕ, ◌+◌, ◌<◌, ◌≤◌, Bool, true, false, ◌==◌, Some, None, List, [], ◌∷◌, ◌++◌, length, filter, get_or, All, refl, ap, subst, sym, ◌∙◌, arith, append-nil, length-append, suc}
use Rattle.macho_symbol_names.proofs.Chains.{name_of_entry}
use Rattle.std.specs.Str.{bytes_eq}
use Rattle.std.proofs.lemmas.List.{map-append, get_or_append_left, length-map}
use Rattle.std.proofs.lemmas.List.Elements.{All-push, filter-append}
use Rattle.std.proofs.Math.Seq.{get_or-append_seam}
use Rattle.macho_stub_lines.proofs.Bind.{bytes_same, bytes_differ}
use Rattle.macho_symbol_names.specs.declared.table.Entry.{Entry}
use Rattle.macho_symbol_names.specs.Kept.{FileRows}
use Rattle.macho_symbol_names.specs.Events.{Event, row_at, event_at, strength, is_of, is_strong_of, better, best_of}
use Rattle.macho_symbol_names.specs.Tables.{Knows, IsNowhere, entry_name, names_of}
use Rattle.macho_symbol_names.specs.steps.Tables.{IsAdded, IsNameless}
use Rattle.macho_symbol_names.proofs.Lists.{filter_none, filter_one}
use Rattle.macho_symbol_names.proofs.Best.{best_push, with_other, with_own, none_of, and_false}
use Rattle.macho_bytes.proofs.Comparing.{same_bytes}

-- an event that is not of a name leaves the name's best
pub best_other : (name : List ℕ) (es : List Event) (e : Event) → is_of name e ≡ false → best_of name (es ++ e ∷ []) ≡ best_of name es
best_other name es e other = best_push name es e ∙ with_other name (best_of name es) e other

pub best_own : (name : List ℕ) (es : List Event) (e : Event) → is_of name e ≡ true
    → best_of name (es ++ e ∷ []) ≡ better (best_of name es) e
best_own name es e own = best_push name es e ∙ with_own name (best_of name es) e own

pub strong_other : (name : List ℕ) (es : List Event) (e : Event) → is_of name e ≡ false
    → filter (is_strong_of name) (es ++ e ∷ []) ≡ filter (is_strong_of name) es
strong_other name es e other =
    let fails : is_strong_of name e ≡ false = rw other (and_false (strength e.row == 4)) in
    filter-append (is_strong_of name) es (e ∷ [])
    ∙ rw (filter_none (is_strong_of name) e fails, append-nil (filter (is_strong_of name) es)) refl

nameless : (name : List ℕ) (e : Event) → IsNameless e → is_of name e ≡ false
nameless name e is = rw is refl

pub other_name : (name : List ℕ) (e : Event) → (e.row.name ≡ name → ⊥) → is_of name e ≡ false
other_name name e other = rw (bytes_differ e.row.name name other) (and_false e.row.global)

pub own_name : (name : List ℕ) (e : Event) → e.row.global ≡ true → e.row.name ≡ name → is_of name e ≡ true
own_name name e global is = rw (global, bytes_same e.row.name name is) refl

-- an event of no name
pub knows_nameless : (files : List FileRows) (es : List Event) (entries : List Entry) (e : Event) → Knows files es entries → IsNameless e
    → Knows files (es ++ e ∷ []) entries
knows_nameless files es entries e known is = record {
  each = λ k d h. best_other _ es e (nameless _ e is) ∙ known.each k d h;
  rest = λ name nowhere. best_other name es e (nameless name e is) ∙ known.rest name nowhere;
  single = λ name. rw (strong_other name es e (nameless name e is)) (known.single name);
}

-- no strong event of a name, where no event is of it
no_strong : (name : List ℕ) (es : List Event) → All (λ x. is_of name x ≡ false) es → filter (is_strong_of name) es ≡ []
no_strong name [] none = refl
no_strong name (x ∷ xs) none =
    let fails : is_strong_of name x ≡ false = rw (none 0 x (omega arith)) (and_false (strength x.row == 4)) in
    rw fails (no_strong name xs (λ k d h. none (suc k) d (omega (arith, h))))

pub one_strong : (name : List ℕ) (e : Event) → length (filter (is_strong_of name) (e ∷ [])) ≤ 1
one_strong name e = of (is_strong_of name e) refl
  where
    of : (t : Bool) → is_strong_of name e ≡ t → length (filter (is_strong_of name) (e ∷ [])) ≤ 1
    of true is = rw (filter_one (is_strong_of name) e is) (omega arith)
    of false is = rw (filter_none (is_strong_of name) e is) (omega arith)

-- an event of a new name
pub knows_added : (files : List FileRows) (es : List Event) (entries new : List Entry) (file row : ℕ) → Knows files es entries
    → (row_at files file row).global ≡ true → IsNowhere (row_at files file row).name (names_of files entries) → IsAdded entries new file row
    → Knows files (es ++ event_at files file row ∷ []) new
knows_added files es entries new file row known global nowhere added = record {
  each = rw added.are
      (All-push (λ e. best_of (entry_name files e) (es ++ event_at files file row ∷ []) ≡ Some
      (event_at files e.file e.row)) entries added.entry olds newest);
  rest = λ name none. best_other name es (event_at files file row)
      (other_name name (event_at files file row) (λ same. none (length (names_of files entries)) last_there (last_name ∙ same)))
      ∙ known.rest name (λ k h is. none k (omega (arith, h, longer)) (before k h ∙ is));
  single = λ name. single name (bytes_eq (row_at files file row).name name) refl;
}
  where
    name_is : entry_name files added.entry ≡ (row_at files file row).name
    name_is = rw (added.file_is, added.row_is) refl

    names : names_of files new ≡ names_of files entries ++ (row_at files file row).name ∷ []
    names = rw (added.are, map-append (entry_name files) entries (added.entry ∷ []), name_is) refl

    longer : length (names_of files new) ≡ length (names_of files entries) + 1
    longer = rw names (length-append (names_of files entries) ((row_at files file row).name ∷ []))

    last_there : length (names_of files entries) < length (names_of files new)
    last_there = omega (arith, longer)

    last_name : get_or (names_of files new) (length (names_of files entries)) [] ≡ (row_at files file row).name
    last_name = rw names (get_or-append_seam (names_of files entries) (row_at files file row).name [] [])

    before : (k : ℕ) → k < length (names_of files entries) → get_or (names_of files new) k [] ≡ get_or (names_of files entries) k []
    before k h = rw names (get_or_append_left (names_of files entries) ((row_at files file row).name ∷ []) [] k h)

    none : best_of (row_at files file row).name es ≡ None
    none = known.rest (row_at files file row).name nowhere

    olds : All (λ e. best_of (entry_name files e) (es ++ event_at files file row ∷ []) ≡ Some (event_at files e.file e.row)) entries
    olds = λ k d h. best_other (entry_name files (get_or entries k d)) es (event_at files file row)
        (other_name (entry_name files (get_or entries k d)) (event_at files file row)
        (λ same. nowhere k (omega (arith, h, length-map entries (entry_name files))) (name_of_entry files entries k d h ∙ sym same)))
        ∙ known.each k d h

    newest : best_of (entry_name files added.entry) (es ++ event_at files file row ∷ []) ≡ Some
        (event_at files added.entry.file added.entry.row)
    newest =
        rw (name_is, added.file_is, added.row_is)
        (best_own (row_at files file row).name es (event_at files file row)
        (own_name (row_at files file row).name (event_at files file row) global refl)
        ∙ ap (λ o. better o (event_at files file row)) none)

    single : (name : List ℕ) (t : Bool) → bytes_eq (row_at files file row).name name ≡ t
        → length (filter (is_strong_of name) (es ++ event_at files file row ∷ [])) ≤ 1
    single name false other = rw (strong_other name es (event_at files file row) (rw other (and_false (row_at files file row).global)))
        (known.single name)
    single name true same =
        let is : (row_at files file row).name ≡ name = same_bytes (row_at files file row).name name same in
        let empty : filter (is_strong_of name) es ≡ [] = no_strong name es (none_of name es (subst (λ n. best_of n es ≡ None) is none)) in
        rw (filter-append (is_strong_of name) es (event_at files file row ∷ []), empty) (one_strong name (event_at files file row))
