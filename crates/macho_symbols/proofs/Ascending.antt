-- The chosen commons rise by file, then symbol, as the events do: each event comes before the row that is looked at next.
-- So those before a symbol are the first ones, which halving finds, and the symbol is at the place behind them or nowhere.
use Rattle.std.proofs.Common.{◌≡◌, ℕ, ◌+◌, ◌<◌, ◌≤◌, inl, inr, ◌==◌, nat_lt, ◌&&◌, ◌||◌, Bool, true, false, List, [], ◌∷◌, ◌++◌, length, map, filter, get_or, All, refl, ap, subst, sym, ◌∙◌, arith, append-nil, append_assoc, zero, suc}
use Rattle.std.specs.List.{AllPairs, position_or_len}
use Rattle.std.proofs.lemmas.Bool.{both_ways, false_from_ne_true, cases_order}
use Rattle.std.proofs.lemmas.Bool.Decides.{nat_tests}
use Rattle.std.proofs.lemmas.List.{get_or-map, get_or_default, length-map}
use Rattle.std.proofs.lemmas.List.Elements.{All-push, All-weaker, All-nil, filter-append}
use Rattle.std.proofs.lemmas.List.Quantifiers.{all_pairs_push}
use Rattle.macho_model.specs.Resolution.{SymbolId, same_symbol}
use Rattle.macho_symbols.specs.declared.solved.Common.{Common}
use Rattle.macho_symbol_names.specs.Kept.{FileRows}
use Rattle.macho_symbol_names.specs.Events.{Event, event_at, events_of_file, events_of, row_count}
use Rattle.macho_symbols.specs.steps.Solved.{common_id, is_before, AreAscending, IsPlaceOf}
use Rattle.macho_symbols.specs.Targets.{id_of, chosen_in}
use Rattle.macho_symbols.specs.steps.Targets.{is_chosen_in}
use Rattle.macho_symbols.proofs.Leading.{common_found, common_missing}
use Rattle.macho_symbol_names.proofs.Lists.{filter_one, filter_none}
use Rattle.macho_symbol_names.proofs.Taking.{file_rows_more, files_more, file_rows_none, files_none}

-- the order
pub before_then : (a b c d e f : ℕ) → (nat_lt a c || ((a == c) && nat_lt b d)) ≡ true → (nat_lt c e || ((c == e) && nat_lt d f)) ≡ true
    → (nat_lt a e || ((a == e) && nat_lt b f)) ≡ true
before_then a b c d e f first second = grind (arith, nat_tests)

before_trans : (s t u : SymbolId) → is_before s t ≡ true → is_before t u ≡ true → is_before s u ≡ true
before_trans s t u first second = before_then s.file s.symbol t.file t.symbol u.file u.symbol first second

next_row : (a b file row : ℕ) → (nat_lt a file || ((a == file) && nat_lt b row)) ≡ true
    → (nat_lt a file || ((a == file) && nat_lt b (row + 1))) ≡ true
next_row a b file row is = grind (arith, nat_tests)

next_file : (a b file row : ℕ) → (nat_lt a file || ((a == file) && nat_lt b row)) ≡ true
    → (nat_lt a (file + 1) || ((a == file + 1) && nat_lt b 0)) ≡ true
next_file a b file row is = grind (arith, nat_tests)

this_row : (file row : ℕ) → (nat_lt file file || ((file == file) && nat_lt row (row + 1))) ≡ true
this_row file row = grind (arith, nat_tests)

not_before_same : (a b c d : ℕ) → (nat_lt a c || ((a == c) && nat_lt b d)) ≡ true → ((c == a) && (d == b)) ≡ false
not_before_same a b c d is = grind (arith, nat_tests)

same_parts : (a b c d : ℕ) → ((a == c) && (b == d)) ≡ true → (a ≡ c) × (b ≡ d)
same_parts a b c d is = grind (arith, nat_tests)

-- events that rise, up to a row
record Rising (file row : ℕ) (es : List Event) : Type 0 where
  pairs : AllPairs (λ a b. is_before (id_of a) (id_of b) ≡ true) es
  all : All (λ e. is_before (id_of e) (record { file = file; symbol = row }) ≡ true) es

further : (p : Event → Bool) (files : List FileRows) (file row : ℕ) (es : List Event) → Rising file row (filter p es)
    → Rising file (row + 1) (filter p (es ++ event_at files file row ∷ []))
further p files file row es rising =
    subst (Rising file (row + 1)) (sym (filter-append p es (event_at files file row ∷ []))) (of (p (event_at files file row)) refl)
  where
    Before : ℕ → Event → Type 0
    Before k e = is_before (id_of e) (record { file = file; symbol = k }) ≡ true

    later : All (Before (row + 1)) (filter p es)
    later = All-weaker (Before row) (Before (row + 1)) (λ e is. next_row e.file e.at file row is) (filter p es) rising.all

    of : (t : Bool) → p (event_at files file row) ≡ t → Rising file (row + 1) (filter p es ++ filter p (event_at files file row ∷ []))
    of true passes =
        rw (filter_one p (event_at files file row) passes) (record {
          pairs = all_pairs_push (λ a b. is_before (id_of a) (id_of b) ≡ true) (filter p es)
              (event_at files file row) rising.pairs rising.all;
          all = All-push (Before (row + 1)) (filter p es) (event_at files file row) later (this_row file row);
        })
    of false fails =
        rw (filter_none p (event_at files file row) fails, append-nil (filter p es)) (record { pairs = rising.pairs; all = later })

rows : (p : Event → Bool) (files : List FileRows) (file count : ℕ) (es : List Event) → Rising file 0 (filter p es)
    → Rising file count (filter p (es ++ events_of_file files file count))
rows p files file zero es rising =
    subst (λ xs. Rising file 0 (filter p xs)) (sym (ap (λ xs. es ++ xs) (file_rows_none files file) ∙ append-nil es)) rising
rows p files file (suc n) es rising =
    let more : events_of_file files file (suc n) ≡ events_of_file files file n ++ event_at files file n ∷ [] =
    ap (events_of_file files file) (omega arith) ∙ file_rows_more files file n in
    subst (λ k. Rising file k (filter p (es ++ events_of_file files file (suc n)))) (omega arith)
    (subst (λ xs. Rising file (n + 1) (filter p xs)) (append_assoc es (events_of_file files file n) (event_at files file n ∷ [])
    ∙ ap (λ xs. es ++ xs) (sym more))
    (further p files file n (es ++ events_of_file files file n) (rows p files file n es rising)))

all_files : (p : Event → Bool) (files : List FileRows) (count : ℕ) → Rising count 0 (filter p (events_of files count))
all_files p files zero =
    subst (λ xs. Rising 0 0 (filter p xs)) (sym (files_none files)) (record {
      pairs = λ i j d before within. absurd (omega (arith, within));
      all = All-nil (λ e. is_before (id_of e) (record { file = 0; symbol = 0 }) ≡ true);
    })
all_files p files (suc n) =
    let here = rows p files n (row_count files n) (events_of files n) (all_files p files n) in
    let more : events_of files n ++ events_of_file files n (row_count files n) ≡ events_of files (suc n) =
    sym (files_more files n) ∙ ap (events_of files) (omega arith) in
    let Last : Event → Type 0 = λ e. is_before (id_of e) (record { file = n; symbol = row_count files n }) ≡ true in
    let Next : Event → Type 0 = λ e. is_before (id_of e) (record { file = n + 1; symbol = 0 }) ≡ true in
    subst (λ k. Rising k 0 (filter p (events_of files (suc n)))) (omega arith)
    (subst (λ xs. Rising (n + 1) 0 (filter p xs)) more (record {
      pairs = here.pairs;
      all = All-weaker Last Next (λ e is. next_file e.file e.at n (row_count files n) is)
          (filter p (events_of files n ++ events_of_file files n (row_count files n))) here.all;
    }))

-- commons with these ids rise
pub ascending : (files : List FileRows) (commons : List Common) → map common_id commons ≡ map id_of (chosen_in files) → AreAscending commons
unfolding chosen_in
ascending files commons ids i j d before within =
    let es = chosen_in files in
    let long : length es ≡ length commons = sym (length-map es id_of) ∙ ap length (sym ids) ∙ length-map commons common_id in
    let e : Event = event_at files 0 0 in
    let at : (k : ℕ) → k < length commons → common_id (get_or commons k d) ≡ id_of (get_or es k e) = λ k h.
    sym (get_or-map common_id commons k d (common_id d) h) ∙ ap (λ xs. get_or xs k (common_id d)) ids
    ∙ get_or-map id_of es k e (common_id d) (omega (arith, h, long)) in
    let rising = all_files (is_chosen_in files) files (length files) in
    ap (λ s. is_before s (common_id (get_or commons j d))) (at i (omega (arith, before, within)))
    ∙ ap (is_before (id_of (get_or es i e))) (at j within)
    ∙ rising.pairs i j e before (omega (arith, within, long))

-- halving: the middle one comes before the symbol, or it doesn't
pub below_middle : (commons : List Common) (s : SymbolId) (m : ℕ) (c : Common) → AreAscending commons → m < length commons
    → is_before (common_id (get_or commons m c)) s ≡ true → (k : ℕ) (d : Common) → k < m + 1
    → is_before (common_id (get_or commons k d)) s ≡ true
below_middle commons s m c sorted within here k d h = elim (cases_order k m) [
  | inl same ↦
      ap (λ x. is_before (common_id x) s) (ap (λ n. get_or commons n d) same ∙ get_or_default commons m d c within) ∙ here
  | inr other ↦ elim other [
    | inl less ↦ before_trans (common_id (get_or commons k d)) (common_id (get_or commons m d)) s (sorted k m d less within)
        (ap (λ x. is_before (common_id x) s) (get_or_default commons m d c within) ∙ here)
    | inr more ↦ absurd (omega (arith, h, more))
  ]
]

pub above_middle : (commons : List Common) (s : SymbolId) (m : ℕ) (c : Common) → AreAscending commons → m < length commons
    → is_before (common_id (get_or commons m c)) s ≡ false → (k : ℕ) (d : Common) → m ≤ k → k < length commons
    → is_before (common_id (get_or commons k d)) s ≡ false
above_middle commons s m c sorted within here k d behind inside = elim (cases_order k m) [
  | inl same ↦
      ap (λ x. is_before (common_id x) s) (ap (λ n. get_or commons n d) same ∙ get_or_default commons m d c within) ∙ here
  | inr other ↦ elim other [
    | inl less ↦ absurd (omega (arith, behind, less))
    | inr more ↦ false_from_ne_true (is_before (common_id (get_or commons k d)) s) (λ is. both_ways _ here
        (ap (λ x. is_before (common_id x) s) (sym (get_or_default commons m d c within))
        ∙ before_trans (common_id (get_or commons m d)) (common_id (get_or commons k d)) s (sorted m k d more inside) is))
  ]
]

-- the symbol's place, or none
passed : (commons : List Common) (s : SymbolId) (place : ℕ) → IsPlaceOf commons s place → (k : ℕ) (d : Common) → k < place
    → same_symbol s (common_id (get_or commons k d)) ≡ false
passed commons s place is k d h =
    not_before_same (common_id (get_or commons k d)).file (common_id (get_or commons k d)).symbol s.file s.symbol (is.below k d h)

pub at_place : (commons : List Common) (s : SymbolId) (place : ℕ) (c : Common) → IsPlaceOf commons s place → place < length commons
    → same_symbol s (common_id (get_or commons place c)) ≡ true → position_or_len (same_symbol s) (map common_id commons) ≡ place
at_place commons s place c is within here = common_found commons s place c within (λ k d h. passed commons s place is k d h) here

no_place_at : (commons : List Common) (s : SymbolId) (place : ℕ) (c : Common) → AreAscending commons → IsPlaceOf commons s place
    → (place < length commons → same_symbol s (common_id (get_or commons place c)) ≡ false) → (k : ℕ) (d : Common) → k < length commons
    → same_symbol s (common_id (get_or commons k d)) ≡ false
no_place_at commons s place c sorted is other k d h = elim (cases_order k place) [
  | inl same ↦
      let within : place < length commons = omega (arith, h, same) in
      ap (λ x. same_symbol s (common_id x)) (ap (λ n. get_or commons n d) same ∙ get_or_default commons place d c within) ∙ other within
  | inr apart ↦ elim apart [
    | inl less ↦ passed commons s place is k d less
    | inr more ↦ false_from_ne_true (same_symbol s (common_id (get_or commons k d))) (λ here.
        let parts = same_parts s.file s.symbol (common_id (get_or commons k d)).file (common_id (get_or commons k d)).symbol here in
        let within : place < length commons = omega (arith, h, more) in
        let first : is_before (common_id (get_or commons place d)) (common_id (get_or commons k d)) ≡ true = sorted place k d more h in
        both_ways _ (is.above place d (omega arith) within)
        (ap (λ f. nat_lt (common_id (get_or commons place d)).file f ||
        (((common_id (get_or commons place d)).file == f) && nat_lt (common_id (get_or commons place d)).symbol s.symbol)) parts.0
        ∙ ap (λ n. nat_lt (common_id (get_or commons place d)).file (common_id (get_or commons k d)).file ||
        (((common_id (get_or commons place d)).file == (common_id (get_or commons k d)).file) && nat_lt
        (common_id (get_or commons place d)).symbol n)) parts.1 ∙ first))
  ]
]

pub no_place : (commons : List Common) (s : SymbolId) (place : ℕ) (c : Common) → AreAscending commons → IsPlaceOf commons s place
    → (place < length commons → same_symbol s (common_id (get_or commons place c)) ≡ false)
    → position_or_len (same_symbol s) (map common_id commons) ≡ length commons
no_place commons s place c sorted is other = common_missing commons s (record { file = 0; symbol = 0 })
    (no_place_at commons s place c sorted is other)
