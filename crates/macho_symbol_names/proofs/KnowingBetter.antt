-- What a table knows, after an event of a name that it has: its entry leads to the better one. Two strong ones are told.
use Rattle.std.proofs.Common.{◌≡◌, ℕ, ◌<◌, ◌≤◌, ◌≢◌, inl, inr, Bool, true, false, ◌&&◌, ◌==◌, Some, None, List, [], ◌∷◌, ◌++◌, length, filter, get_or, set, All, refl, ap, subst, sym, ◌∙◌, arith, append-nil, length-set, suc}
use Rattle.std.specs.Str.{bytes_eq}
use Rattle.std.proofs.lemmas.List.{get_or-set_same, get_or-set_other, length-map, get_or_default}
use Rattle.std.proofs.lemmas.List.Elements.{filter-append}
use Rattle.std.proofs.lemmas.Bool.{false≢true, cases_lt}
use Rattle.macho_symbol_names.specs.declared.table.Entry.{Entry}
use Rattle.macho_symbol_names.specs.declared.fault.SymbolFault.{SymbolFault}
use Rattle.macho_symbol_names.specs.declared.fault.SymbolFault.TheVariants.{DuplicateSymbol, UndefinedSymbol, ExportListMissing, OutOfMemory}
use Rattle.macho_symbol_names.specs.Kept.{FileRows}
use Rattle.macho_symbol_names.specs.Events.{Event, row_at, event_at, beats, strength, is_of, is_strong_of, better, best_of}
use Rattle.macho_symbol_names.specs.steps.Levels.{is_level}
use Rattle.macho_symbol_names.specs.Tables.{Heads, Knows, IsTable, IsNowhere, IsEntryOf, IsClash, entry_name, names_of, no_entry}
use Rattle.macho_symbol_names.specs.steps.Tables.{IsImproved, AreBothStrong, row_of_entry}
use Rattle.macho_symbol_names.proofs.Lists.{filter_none, filter_one}
use Rattle.macho_symbol_names.proofs.Chains.{name_of_entry}
use Rattle.macho_symbol_names.proofs.Improving.{names_stay}
use Rattle.macho_symbol_names.proofs.Order.{strength_below, stronger_beats, ties_strength}
use Rattle.macho_symbol_names.proofs.Best.{best_is, better_yes, better_none, and_false}
use Rattle.macho_symbol_names.proofs.Knowing.{best_other, best_own, strong_other, other_name, own_name, one_strong}
use Rattle.macho_bytes.proofs.Maps.{filter_same_test}
use Rattle.macho_bytes.proofs.Bools.{is_equal}
use Rattle.macho_bytes.proofs.Comparing.{same_bytes, same_or_not}

-- no strong event of a name whose best is not strong
none_stronger : (name : List ℕ) (es : List Event) (b : Event) → All (λ x. is_of name x ≡ true → beats x.row b.row ≡ false) es
    → (strength b.row == 4) ≡ false → filter (is_strong_of name) es ≡ []
none_stronger name [] b unbeaten weaker = refl
none_stronger name (x ∷ xs) b unbeaten weaker =
    let rest : filter (is_strong_of name) xs ≡ [] = none_stronger name xs b (λ k d h. unbeaten (suc k) d (omega (arith, h))) weaker in
    of (is_strong_of name x) refl rest
  where
    both : (u v : Bool) → (u && v) ≡ true → (u ≡ true) × (v ≡ true)
    both true true e = (refl, refl)
    both true false e = cc
    both false v e = cc

    of : (t : Bool) → is_strong_of name x ≡ t → filter (is_strong_of name) xs ≡ [] → filter (is_strong_of name) (x ∷ xs) ≡ []
    of false is rest = rw is rest
    of true is rest =
        let parts = both (strength x.row == 4) (is_of name x) is in
        let strong : strength x.row ≡ 4 = is_equal (strength x.row) 4 parts.0 in
        absurd (false≢true (sym (unbeaten 0 x (omega arith) parts.1)
        ∙ stronger_beats x.row b.row (omega (arith, strong, strength_below b.row weaker))))

-- the strong events of a name whose best is strong
pub strong_first : (name : List ℕ) (es : List Event) (b : Event) → best_of name es ≡ Some b → (strength b.row == 4) ≡ true
    → (more : List Event) × (filter (is_strong_of name) es ≡ b ∷ more)
strong_first name es b best strong =
    let is = best_is name es b best in
    let s : strength b.row ≡ 4 = is_equal (strength b.row) 4 strong in (
      is.more,
      filter_same_test (is_strong_of name) (is_level name b) es
          (λ x. ap (λ t. t && is_of name x) (sym (ties_strength b.row x.row 4 s refl))) ∙ is.first,
    )

only_one : (xs more : List Event) (b : Event) → xs ≡ b ∷ more → length xs ≤ 1 → xs ≡ b ∷ []
only_one xs [] b e short = e
only_one xs (x ∷ more) b e short = absurd (omega (arith, short, ap length e))

first_false : (u v : Bool) → (u && v) ≡ false → v ≡ true → u ≡ false
first_false false v e h = refl
first_false true true e h = e
first_false true false e h = absurd (false≢true h)

-- two entries have two names
pub apart_any : (files : List FileRows) (heads : Heads) (entries : List Entry) (j k : ℕ) → IsTable files heads entries
    → j < length entries → k < length entries → j ≢ k
    → get_or (names_of files entries) j [] ≡ get_or (names_of files entries) k [] → ⊥
apart_any files heads entries j k table hj hk other same = elim (cases_lt j k) [
  | inl less ↦ table.apart k j less hk (sym same)
  | inr more ↦ table.apart j k (omega (arith, other)) hj same
]

-- What is known, with the entry of the event's name improved.
pub knows_improved : (files : List FileRows) (heads : Heads) (es : List Event) (entries new : List Entry) (number file row : ℕ)
    → IsTable files heads entries
    → Knows files es entries → (row_at files file row).global ≡ true → IsEntryOf files entries (row_at files file row).name number
    → IsImproved files entries new number file row → Knows files (es ++ event_at files file row ∷ []) new
knows_improved files heads es entries new number file row table known global of_name improved = record {
  each = each (beats (row_at files file row) (row_of_entry files entries number)) refl;
  rest = λ name nowhere. rest name (subst (λ ns. IsNowhere name ns) names nowhere);
  single = λ name. single name (bytes_eq (row_at files file row).name name) refl;
}
  where
    named : entry_name files (get_or entries number no_entry) ≡ (row_at files file row).name
    named = sym (name_of_entry files entries number no_entry of_name.0) ∙ of_name.1

    best : best_of (row_at files file row).name es ≡ Some
        (event_at files (get_or entries number no_entry).file (get_or entries number no_entry).row)
    best = subst
        (λ n. best_of n es ≡ Some (event_at files (get_or entries number no_entry).file (get_or entries number no_entry).row)) named
        (known.each number no_entry of_name.0)

    after : best_of (row_at files file row).name (es ++ event_at files file row ∷ []) ≡ better
        (Some (event_at files (get_or entries number no_entry).file (get_or entries number no_entry).row)) (event_at files file row)
    after = best_own (row_at files file row).name es (event_at files file row)
        (own_name (row_at files file row).name (event_at files file row) global refl) ∙ ap (λ o. better o (event_at files file row)) best

    within : number < length entries
    within = of_name.0

    unlike : (k : ℕ) (d : Entry) → k < length entries → k ≢ number
        → best_of (entry_name files (get_or entries k d)) (es ++ event_at files file row ∷ []) ≡ Some
        (event_at files (get_or entries k d).file (get_or entries k d).row)
    unlike k d h other =
        best_other (entry_name files (get_or entries k d)) es (event_at files file row)
        (other_name (entry_name files (get_or entries k d)) (event_at files file row)
        (λ same. apart_any files heads entries k number table h within other (name_of_entry files entries k d h ∙ sym same
        ∙ sym of_name.1)))
        ∙ known.each k d h

    named_better : entry_name files (record (get_or entries number no_entry) { file = file; row = row }) ≡ entry_name files
        (get_or entries number no_entry)
    named_better = sym named

    names_by : (t : Bool) → beats (row_at files file row) (row_of_entry files entries number) ≡ t
        → names_of files new ≡ names_of files entries
    names_by false fails = ap (names_of files) (improved.kept fails)
    names_by true passes = ap (names_of files) (improved.better passes)
        ∙ names_stay files entries number (record (get_or entries number no_entry) { file = file; row = row }) named_better

    names : names_of files new ≡ names_of files entries
    names = names_by (beats (row_at files file row) (row_of_entry files entries number)) refl

    each : (t : Bool) → beats (row_at files file row) (row_of_entry files entries number) ≡ t
        → All (λ x. best_of (entry_name files x) (es ++ event_at files file row ∷ []) ≡ Some (event_at files x.file x.row)) new
    each false fails k d h =
        rw (improved.kept fails) (elim (same_or_not k number) [
          | inl same ↦
              rw (ap (λ j. get_or entries j d) same ∙ get_or_default entries number d no_entry within, named)
              (after ∙ better_none (event_at files (get_or entries number no_entry).file (get_or entries number no_entry).row)
              (event_at files file row) fails)
          | inr other ↦ unlike k d (omega (arith, h, ap length (improved.kept fails))) other
        ])
    each true passes k d h =
        let long : length new ≡ length entries = ap length (improved.better passes)
        ∙ length-set entries number (record (get_or entries number no_entry) { file = file; row = row }) in
        rw (improved.better passes) (elim (same_or_not k number) [
          | inl same ↦
              rw (ap (λ j. get_or (set entries number (record (get_or entries number no_entry) { file = file; row = row })) j d) same
              ∙ get_or-set_same entries number (record (get_or entries number no_entry) { file = file; row = row }) d within)
              (after ∙ better_yes (event_at files (get_or entries number no_entry).file (get_or entries number no_entry).row)
              (event_at files file row) passes)
          | inr other ↦
              rw (get_or-set_other entries number k (record (get_or entries number no_entry) { file = file; row = row }) d other)
              (unlike k d (omega (arith, h, long)) other)
        ])

    rest : (name : List ℕ) → IsNowhere name (names_of files entries) → best_of name (es ++ event_at files file row ∷ []) ≡ None
    rest name nowhere =
        best_other name es (event_at files file row)
        (other_name name (event_at files file row)
        (λ same. nowhere number (omega (arith, of_name.0, length-map entries (entry_name files))) (of_name.1 ∙ same)))
        ∙ known.rest name nowhere

    single : (name : List ℕ) (t : Bool) → bytes_eq (row_at files file row).name name ≡ t
        → length (filter (is_strong_of name) (es ++ event_at files file row ∷ [])) ≤ 1
    single name false other = rw (strong_other name es (event_at files file row) (rw other (and_false (row_at files file row).global)))
        (known.single name)
    single name true same = by (strength (row_at files file row) == 4) refl (same_bytes (row_at files file row).name name same)
      where
        by : (u : Bool) → (strength (row_at files file row) == 4) ≡ u → (row_at files file row).name ≡ name
            → length (filter (is_strong_of name) (es ++ event_at files file row ∷ [])) ≤ 1
        by false weaker is =
            let fails : is_strong_of name (event_at files file row) ≡ false = rw weaker refl in
            rw (
              filter-append (is_strong_of name) es (event_at files file row ∷ []),
              filter_none (is_strong_of name)
                  (event_at files file row) fails,
              append-nil (filter (is_strong_of name) es),
            )
            (known.single name)
        by true strong is =
            let weaker : (strength (row_of_entry files entries number) == 4) ≡ false = first_false
            (strength (row_of_entry files entries number) == 4) (strength (row_at files file row) == 4) improved.single strong in
            let bested = best_is (row_at files file row).name es
            (event_at files (get_or entries number no_entry).file (get_or entries number no_entry).row) best in
            let empty : filter (is_strong_of (row_at files file row).name) es ≡ [] =
            none_stronger (row_at files file row).name es
            (event_at files (get_or entries number no_entry).file (get_or entries number no_entry).row) bested.unbeaten weaker in
            let empty_here : filter (is_strong_of name) es ≡ [] = subst (λ n. filter (is_strong_of n) es ≡ []) is empty in
            rw (filter-append (is_strong_of name) es (event_at files file row ∷ []), empty_here) (one_strong name (event_at files file row))

-- Two strong definitions: the entry's row is the only one so far, and the event is the second.
pub clash_told : (files : List FileRows) (es : List Event) (entries : List Entry) (number file row : ℕ) (fault : SymbolFault)
    → Knows files es entries
    → (row_at files file row).global ≡ true → IsEntryOf files entries (row_at files file row).name number
    → AreBothStrong files entries number file row fault → IsClash (es ++ event_at files file row ∷ []) fault
clash_told files es entries number file row OutOfMemory known global of_name both = tt
clash_told files es entries number file row (UndefinedSymbol name undefined) known global of_name both = both
clash_told files es entries number file row (ExportListMissing name) known global of_name both = both
clash_told files es entries number file row (DuplicateSymbol name first second) known global of_name both = record {
  a = event_at files (get_or entries number no_entry).file (get_or entries number no_entry).row;
  b = event_at files file row;
  more = [];
  strong = subst (λ n. filter (is_strong_of n) (es ++ event_at files file row ∷ []) ≡ event_at files (get_or entries number no_entry).file
      (get_or entries number no_entry).row ∷ event_at files file row ∷ []) (sym both.0) strong;
  left = sym both.1;
  right = sym both.2;
}
  where
    parts : (u v : Bool) → (u && v) ≡ true → (u ≡ true) × (v ≡ true)
    parts true true e = (refl, refl)
    parts true false e = cc
    parts false v e = cc

    named : entry_name files (get_or entries number no_entry) ≡ (row_at files file row).name
    named = sym (name_of_entry files entries number no_entry of_name.0) ∙ of_name.1

    best : best_of (row_at files file row).name es ≡ Some
        (event_at files (get_or entries number no_entry).file (get_or entries number no_entry).row)
    best = subst
        (λ n. best_of n es ≡ Some (event_at files (get_or entries number no_entry).file (get_or entries number no_entry).row)) named
        (known.each number no_entry of_name.0)

    before : filter (is_strong_of (row_at files file row).name) es ≡ event_at files (get_or entries number no_entry).file
        (get_or entries number no_entry).row ∷ []
    before =
        let firsts = strong_first (row_at files file row).name es
        (event_at files (get_or entries number no_entry).file (get_or entries number no_entry).row) best (parts _ _ both.3).0 in
        only_one (filter (is_strong_of (row_at files file row).name) es) firsts.0 _ firsts.1 (known.single (row_at files file row).name)

    strong_now : (strength (row_at files file row) == 4) ≡ true
    strong_now = (parts (strength (row_of_entry files entries number) == 4) (strength (row_at files file row) == 4) both.3).1

    now : is_strong_of (row_at files file row).name (event_at files file row) ≡ true
    now = rw (strong_now, own_name (row_at files file row).name (event_at files file row) global refl) refl

    strong : filter (is_strong_of (row_at files file row).name) (es ++ event_at files file row ∷ [])
        ≡ event_at files (get_or entries number no_entry).file (get_or entries number no_entry).row ∷ event_at files file row ∷ []
    strong = rw (
      filter-append (is_strong_of (row_at files file row).name) es (event_at files file row ∷ []),
      before,
      filter_one
          (is_strong_of (row_at files file row).name) (event_at files file row) now,
    ) refl
