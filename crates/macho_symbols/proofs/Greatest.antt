-- The best event of a name, where it is a common: the first of the greatest. Of the name's commons none is greater than
-- it, since none beats it; so those than which none is greater are those of its size, and they are the events as good as it.
use Rattle.std.proofs.Common.{◌≡◌, ℕ, ◌<◌, ◌≤◌, ◌≢◌, Bool, true, false, ◌&&◌, ◌==◌, nat_le, nat_lt, ◌||◌, List, [], ◌∷◌, length, map, filter, get_or, refl, ap, sym, ◌∙◌, arith, suc, zero}
use Rattle.std.specs.List.{list_all}
use Rattle.std.proofs.lemmas.Bool.Decides.{nat_tests}
use Rattle.std.proofs.lemmas.List.{get_or-map, length-map}
use Rattle.std.proofs.lemmas.List.Elements.{filter_passes, All-filter}
use Rattle.macho_records.specs.Symbols.{is_common_of}
use Rattle.macho_model.specs.Links.{Link, object_of}
use Rattle.macho_model.specs.Resolution.{SymbolId, symbols_of, commons_of, greatest_of, entry_at, has_name}
use Rattle.macho_symbol_names.specs.declared.notes.Sort.TheVariants.{Common}
use Rattle.macho_symbol_names.specs.Kept.{Row, kept_of, row_of_symbol, sort_of, value_of}
use Rattle.macho_symbol_names.specs.Events.{Event, strength, beats, common_size, size_of_common, is_of, events}
use Rattle.macho_symbol_names.specs.steps.Levels.{is_level}
use Rattle.macho_symbols.specs.steps.Targets.{row_of, event_of}
use Rattle.macho_symbols.specs.Targets.{id_of}
use Rattle.macho_symbol_names.proofs.Best.{IsBest}
use Rattle.macho_symbols.proofs.Classes.{common_class, common_alone}
use Rattle.macho_symbols.proofs.ListsMore.{filter-filter, filter_same_on}
use Rattle.macho_bytes.proofs.Maps.{filter_same_test, filter-map}
use Rattle.macho_bytes.proofs.Bools.{and_left, is_equal, both_parts}
use Rattle.macho_bytes.proofs.Comparing.{at_most, unequal}

filter_from : {X : Type 0} (p : X → Bool) (xs : List X) (y d : X) (ys : List X) → filter p xs ≡ y ∷ ys
    → (k : ℕ) × (k < length xs) × (get_or xs k d ≡ y)
filter_from p [] y d ys e = cc
filter_from p (x ∷ xs) y d ys e = of (p x) refl (λ h. filter_from p xs y d ys h)
  where
    of : (t : Bool) → p x ≡ t → (filter p xs ≡ y ∷ ys → (k : ℕ) × (k < length xs) × (get_or xs k d ≡ y))
        → (k : ℕ) × (k < length (x ∷ xs)) × (get_or (x ∷ xs) k d ≡ y)
    of true is rest = let same : x ≡ y = cc (rw is at e) in (0, omega arith, same)
    of false is rest = let r = rest (rw is at e) in (suc r.0, omega (arith, r.1), r.2)

all_pass : {X : Type 0} (p : X → Bool) (xs : List X) → ((k : ℕ) (d : X) → k < length xs → p (get_or xs k d) ≡ true) → list_all p xs ≡ true
all_pass p [] pass = refl
all_pass p (x ∷ xs) pass = rw (pass 0 x (omega arith)) (all_pass p xs (λ k d h. pass (suc k) d (omega (arith, h))))

one_fails : {X : Type 0} (p : X → Bool) (xs : List X) (k : ℕ) (d : X) → k < length xs → p (get_or xs k d) ≡ false → list_all p xs ≡ false
one_fails p [] k d h fails = absurd (omega arith)
one_fails p (x ∷ xs) zero d h fails = rw fails refl
one_fails p (x ∷ xs) (suc k) d h fails = of (p x) (one_fails p xs k d (omega (arith, h)) fails)
  where
    of : (t : Bool) → list_all p xs ≡ false → (t && list_all p xs) ≡ false
    of true e = e
    of false e = refl

-- the size of a common's row
size_is : (l : Link) (s : SymbolId) → is_common_of (entry_at l s) ≡ true → common_size (row_of l s) ≡ (entry_at l s).n_value
unfolding row_of_symbol
size_is l s common =
    let parts = common_alone (object_of l s.file) (entry_at l s) common in
    let sort : sort_of (object_of l s.file) (entry_at l s) ≡ Common = rw (parts.1, parts.2, common) refl in
    ap (λ x. size_of_common x (value_of (object_of l s.file) (entry_at l s) x)) sort

-- of two commons, neither beating the other says which is greater
not_greater : (a b : Row) → strength a ≡ 2 → strength b ≡ 2 → beats a b ≡ false → common_size a ≤ common_size b
not_greater a b s t e = by (strength a) (strength b) (common_size a) (common_size b) s t e
  where
    by : (m n x y : ℕ) → m ≡ 2 → n ≡ 2 → (nat_lt n m || ((n == m) && nat_lt y x)) ≡ false → x ≤ y
    by m n x y s t e = grind (arith, nat_tests)

level_test : (s : ℕ) (z o : Bool) → (((2 == s) && z) && o) ≡ (z && ((s == 2) && o))
level_test s z o = of (2 == s) refl z o
  where
    of : (t : Bool) → (2 == s) ≡ t → (z o : Bool) → (((2 == s) && z) && o) ≡ (z && ((s == 2) && o))
    of true is true o = let back : (s == 2) ≡ true = grind (arith, nat_tests) in rw (is, back) refl
    of true is false o = rw is refl
    of false is true o = let back : (s == 2) ≡ false = grind (arith, nat_tests) in rw (is, back) refl
    of false is false o = rw is refl

above : (m n : ℕ) → n < m → nat_le m n ≡ false
above m n h = grind (arith, nat_tests)

-- a symbol among the commons of a name: its row, as the best event sees it
common_row : (l : Link) (name : List ℕ) (b : Event) → IsBest name (events (map kept_of l.inputs)) b → strength b.row ≡ 2
    → (k : ℕ) (d : SymbolId) → k < length (commons_of l name)
    → (common_size (row_of l (get_or (commons_of l name) k d)) ≤ common_size b.row)
    × (common_size (row_of l (get_or (commons_of l name) k d)) ≡ (entry_at l (get_or (commons_of l name) k d)).n_value)
unfolding commons_of
common_row l name b is s k d within =
    let es = events (map kept_of l.inputs) in
    let symbol = get_or (commons_of l name) k d in
    let common : is_common_of (entry_at l symbol) ≡ true =
    and_left _ _ (filter_passes (λ (t : SymbolId). is_common_of (entry_at l t) && has_name l name t) (symbols_of l) k d within) in
    let test : Event → Bool = λ e. (strength e.row == 2) && is_of name e in
    let long : length (filter test es) ≡ length (commons_of l name) = ap length (sym (common_class l name))
    ∙ length-map (commons_of l name) (event_of l) in
    let here : get_or (filter test es) k (event_of l d) ≡ event_of l symbol =
    ap (λ xs. get_or xs k (event_of l d)) (sym (common_class l name))
    ∙ get_or-map (event_of l) (commons_of l name) k d (event_of l d) within in
    let passes = both_parts _ _ (filter_passes test es k (event_of l d) (omega (arith, within, long))) in
    let strong : strength (row_of l symbol) ≡ 2 = ap (λ e. strength e.row) (sym here) ∙ is_equal _ 2 passes.0 in
    let beaten = All-filter test (λ x. is_of name x ≡ true → beats x.row b.row ≡ false) es is.unbeaten k (event_of l d)
    (omega (arith, within, long)) passes.1 in
    let fails : beats (row_of l symbol) b.row ≡ false = ap (λ e. beats e.row b.row) (sym here) ∙ beaten in
    (not_greater (row_of l symbol) b.row strong s fails, size_is l symbol common)

-- the events as good as the best are the commons of its size
levels : (l : Link) (name : List ℕ) (b : Event) (is : IsBest name (events (map kept_of l.inputs)) b) → strength b.row ≡ 2
    → map (event_of l) (filter (λ s. common_size b.row == common_size (row_of l s)) (commons_of l name)) ≡ b ∷ is.more
levels l name b is s =
    let es = events (map kept_of l.inputs) in
    let sizes : Event → Bool = λ x. common_size b.row == common_size x.row in
    let test : Event → Bool = λ e. (strength e.row == 2) && is_of name e in
    sym (filter-map sizes (event_of l) (commons_of l name)) ∙ ap (filter sizes) (common_class l name) ∙ filter-filter sizes test es
    ∙ filter_same_test (λ x. sizes x && test x) (is_level name b) es
    (λ x. sym (ap (λ n. ((n == strength x.row) && sizes x) && is_of name x) s ∙ level_test (strength x.row) (sizes x) (is_of name x)))
    ∙ is.first

-- the best common is the first of the greatest
pub greatest_first : (l : Link) (name : List ℕ) (b : Event) → IsBest name (events (map kept_of l.inputs)) b → strength b.row ≡ 2
    → (more : List Event) × (map (event_of l) (greatest_of l name) ≡ b ∷ more)
unfolding greatest_of
greatest_first l name b is s = (
  is.more,
  ap (map (event_of l))
      (filter_same_on _ _ (commons_of l name)
      (λ k d h. agree k d h (common_size b.row == common_size (row_of l (get_or (commons_of l name) k d))) refl)) ∙ levels l name b is s,
)
  where
    first_there : (k : ℕ) × (k < length (commons_of l name))
        × (common_size (row_of l (get_or (commons_of l name) k (id_of b))) ≡ common_size b.row)
    first_there = of (filter (λ s. common_size b.row == common_size (row_of l s)) (commons_of l name)) refl
      where
        of : (xs : List SymbolId) → filter (λ s. common_size b.row == common_size (row_of l s)) (commons_of l name) ≡ xs
            → (k : ℕ) × (k < length (commons_of l name))
            × (common_size (row_of l (get_or (commons_of l name) k (id_of b))) ≡ common_size b.row)
        of [] e = let none = sym (ap (map (event_of l)) e) ∙ levels l name b is s in absurd (omega (arith, ap length none))
        of (x ∷ xs) e =
            let from = filter_from (λ s. common_size b.row == common_size (row_of l s)) (commons_of l name) x (id_of b) xs e in
            let passes = filter_passes (λ (s : SymbolId). common_size b.row == common_size (row_of l s)) (commons_of l name) 0 x
            (omega (arith, ap length e)) in
            let here : (common_size b.row == common_size (row_of l x)) ≡ true = ap
            (λ ys. common_size b.row == common_size (row_of l (get_or ys 0 x))) (sym e) ∙ passes in
            (from.0, from.1, ap (λ y. common_size (row_of l y)) from.2 ∙ sym (is_equal _ _ here))

    agree : (k : ℕ) (d : SymbolId) → k < length (commons_of l name) → (t : Bool)
        → (common_size b.row == common_size (row_of l (get_or (commons_of l name) k d))) ≡ t
        → list_all (λ t. nat_le (entry_at l t).n_value (entry_at l (get_or (commons_of l name) k d)).n_value) (commons_of l name)
        ≡ (common_size b.row == common_size (row_of l (get_or (commons_of l name) k d)))
    agree k d h true same =
        let own = common_row l name b is s k d h in
        all_pass _ (commons_of l name)
        (λ j e g. let other = common_row l name b is s j e g in at_most _ _
        (omega (arith, own.1, other.1, other.0, is_equal _ _ same))) ∙ sym same
    agree k d h false apart =
        let own = common_row l name b is s k d h in
        let most = common_row l name b is s first_there.0 (id_of b) first_there.1 in
        one_fails _ (commons_of l name) first_there.0 (id_of b) first_there.1
        (above _ _ (omega (arith, own.0, own.1, most.1, first_there.2, unequal _ _ apart))) ∙ sym apart
