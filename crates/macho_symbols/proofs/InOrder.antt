-- Names in rising order. The names that pass a test are gathered in the order of their entries, and sorted: the same names,
-- of which none is less than the one before. Names of different entries differ, so each is less than the next.
use Rattle.std.proofs.Common.{◌≡◌, ◌≢◌, ℕ, ◌+◌, ◌<◌, ◌≤◌, cond, Bool, true, false, List, [], ◌∷◌, ◌++◌, length, take, filter, get_or, Contains, IsPermutation, refl, ap, subst, sym, ◌∙◌, arith, append-nil, Bor}
use Rattle.std.specs.List.{AllPairs, list_any, IsDistinct, AllByRecursion}
use Rattle.std.specs.List.Sorted.{IsSorted}
use Rattle.std.specs.Str.{bytes_eq}
use Rattle.std.specs.Cmp.Lexicographic.{slice_cmp}
use Rattle.std.specs.Ordering.{nat_cmp, ordering_then, ordering_reverse, is_lt}
use Rattle.std.specs.declared.cmp.Ordering.{Ordering}
use Rattle.std.specs.declared.cmp.Ordering.TheVariants.{Less, Equal, Greater}
use Rattle.std.specs.FinMap.{slice_cmp-IsAntisymmetric, nat_cmp-IsAntisymmetric}
use Rattle.std.proofs.lemmas.Bool.{both_ways, false_from_ne_true, true_from_ne_false}
use Rattle.std.proofs.lemmas.Cmp.{nat_list_cmp_total, nat_list_eq_equiv}
use Rattle.std.proofs.lemmas.Slice.Eq.{bytes_eq-Decides}
use Rattle.std.proofs.lemmas.List.{get_or-map, get_or_default, length-map, map-append, take_all, take_more}
use Rattle.std.proofs.lemmas.List.Elements.{All-push, All-from_recursion, recursion_from_All, All-filter, filter_more, filter_passes}
use Rattle.std.proofs.lemmas.List.Folds.{list_any_at}
use Rattle.std.proofs.lemmas.List.Sorted.{IsPermutation-map, Contains-permutation, All-permutation}
use Rattle.std.proofs.lemmas.Map.Keys.{IsDistinct-IsPermutation, IsDistinct-from_apart, IsDistinct-cons, IsDistinct-head, IsDistinct-tail}
use Rattle.std.proofs.lemmas.Map.Made.{AllPairs-from_IsDistinct}
use Rattle.std.proofs.lemmas.Map.Views.{any-filter_same, Contains-from_any}
use Rattle.macho_symbols.specs.declared.exports.ExportName.{ExportName}
use Rattle.macho_symbol_names.specs.declared.table.Entry.{Entry}
use Rattle.macho_symbol_names.specs.Kept.{FileRows}
use Rattle.macho_symbols.specs.Exported.{AreRising}
use Rattle.macho_symbols.specs.steps.Exporting.{IsToldIn, AreTold, IsPairIn, AreFound, AreInOrder, pair_names}
use Rattle.macho_symbol_names.specs.Tables.{Heads, IsTable, IsNowhere, names_of, entry_name}

-- gathering, one entry further
pub found_none : (files : List FileRows) (entries : List Entry) (test : List ℕ → Bool) → AreFound files entries test 0 []
found_none files entries test = record { each = λ k d h. absurd (omega (arith, h)); names = refl }

further : (names : List (List ℕ)) (test : List ℕ → Bool) (k : ℕ) (t : Bool) → k < length names → test (get_or names k []) ≡ t
    → filter test (take (k + 1) names) ≡ filter test (take k names) ++ cond t (get_or names k [] ∷ []) []
further names test k t within is = filter_more test names k [] within
    ∙ ap (λ u. filter test (take k names) ++ cond u (get_or names k [] ∷ []) []) is

pub found_more : (files : List FileRows) (entries : List Entry) (test : List ℕ → Bool) (k : ℕ) (pairs : List (Bor (List ℕ) × ℕ))
    (text : Bor (List ℕ))
    → AreFound files entries test k pairs → k < length entries → text.now ≡ get_or (names_of files entries) k []
    → test (get_or (names_of files entries) k []) ≡ true
    → AreFound files entries test (k + 1) (pairs ++ (text, k) ∷ [])
found_more files entries test k pairs text found within is passes =
    let names = names_of files entries in
    let inside : k < length names = omega (arith, within, length-map entries (entry_name files)) in
    record {
      each = All-push (IsPairIn files entries) pairs (text, k) found.each (within, sym is);
      names =
          map-append (λ p. p.0.now) pairs ((text, k) ∷ []) ∙ ap (λ xs. xs ++ text.now ∷ []) found.names
          ∙ ap (λ n. filter test (take k names) ++ n ∷ []) is ∙ sym (further names test k true inside passes);
    }

pub found_same : (files : List FileRows) (entries : List Entry) (test : List ℕ → Bool) (k : ℕ) (pairs : List (Bor (List ℕ) × ℕ))
    → AreFound files entries test k pairs → k < length entries → test (get_or (names_of files entries) k []) ≡ false
    → AreFound files entries test (k + 1) pairs
found_same files entries test k pairs found within fails =
    let names = names_of files entries in
    let inside : k < length names = omega (arith, within, length-map entries (entry_name files)) in
    record {
      each = found.each;
      names = found.names ∙ sym (append-nil (filter test (take k names))) ∙ sym (further names test k false inside fails);
    }

-- names of different entries differ, also those that pass a test
distinct_names : (files : List FileRows) (heads : Heads) (entries : List Entry) → IsTable files heads entries
    → IsDistinct bytes_eq (names_of files entries)
distinct_names files heads entries table =
    let names = names_of files entries in
    IsDistinct-from_apart bytes_eq names (λ i j d before within. false_from_ne_true (bytes_eq (get_or names i d) (get_or names j d)) (λ is.
    let same : get_or names i d ≡ get_or names j d = (bytes_eq-Decides (get_or names i d) (get_or names j d)).0 is in
    let inside : j < length entries = omega (arith, within, length-map entries (entry_name files)) in
    table.apart j i before inside (get_or_default names j [] d within ∙ sym same
    ∙ get_or_default names i d [] (omega (arith, before, within)))))

distinct_filter : (test : List ℕ → Bool) (names : List (List ℕ)) → IsDistinct bytes_eq names → IsDistinct bytes_eq (filter test names)
distinct_filter test [] distinct = distinct
distinct_filter test (n ∷ names) distinct = of (test n) refl (distinct_filter test names (IsDistinct-tail bytes_eq n names distinct))
  where
    P : List ℕ → Type 0
    P y = bytes_eq n y ≡ false

    others : AllByRecursion P (filter test names)
    others =
        recursion_from_All P (filter test names)
        (All-filter test P names (All-from_recursion P names (IsDistinct-head bytes_eq n names distinct)))

    of : (t : Bool) → test n ≡ t → IsDistinct bytes_eq (filter test names) → IsDistinct bytes_eq (filter test (n ∷ names))
    of true passes rest = rw passes (IsDistinct-cons bytes_eq n (filter test names) others rest)
    of false fails rest = rw fails rest

-- of two neighbours that differ the second is not less, so the first is
abbrev pub pair_cmp : Bor (List ℕ) × ℕ → Bor (List ℕ) × ℕ → Ordering
pair_cmp x y = ordering_then (slice_cmp nat_cmp x.0.now y.0.now) (nat_cmp x.1 y.1)

less_of : (x y : List ℕ) (rest : Ordering) → is_lt (ordering_then (slice_cmp nat_cmp y x) rest) ≡ false → (x ≡ y → ⊥)
    → slice_cmp nat_cmp x y ≡ Less
less_of x y rest not_less differ =
    let flip = nat_list_cmp_total.antisymm y x in
    elim (slice_cmp nat_cmp x y) as (λ o. slice_cmp nat_cmp x y ≡ o → o ≡ Less) [
      | Less ↦ λ e. refl
      | Equal ↦ λ e. absurd (differ (slice_cmp-IsAntisymmetric nat_cmp-IsAntisymmetric x y e))
      | Greater ↦ λ e. let less : slice_cmp nat_cmp y x ≡ Less = flip ∙ ap ordering_reverse e in
          let no : is_lt (ordering_then Less rest) ≡ false = ap (λ (o : Ordering). is_lt (ordering_then o rest)) (sym less) ∙ not_less in
          absurd cc
    ] refl

rising : (items : List (Bor (List ℕ) × ℕ)) → IsSorted pair_cmp items → AllPairs (λ x y. x ≢ y) (pair_names items)
    → AreRising (pair_names items)
rising [] sorted differ k d within = absurd (omega (arith, within))
rising (p ∷ items) sorted differ k d within =
    let xs : List (Bor (List ℕ) × ℕ) = p ∷ items in
    let long = length-map xs (λ q. q.0.now) in
    let first : get_or (pair_names xs) k d ≡ (get_or xs k p).0.now = get_or-map (λ q. q.0.now) xs k p d (omega (arith, within, long)) in
    let second : get_or (pair_names xs) (k + 1) d ≡ (get_or xs (k + 1) p).0.now = get_or-map (λ q. q.0.now) xs (k + 1) p d
    (omega (arith, within, long)) in
    let less : slice_cmp nat_cmp (get_or xs k p).0.now (get_or xs (k + 1) p).0.now ≡ Less =
    less_of (get_or xs k p).0.now (get_or xs (k + 1) p).0.now (nat_cmp (get_or xs (k + 1) p).1 (get_or xs k p).1)
    (sorted k p (omega arith) (omega (arith, within, long)))
    (λ same. differ k (k + 1) d (omega arith) within (first ∙ same ∙ sym second)) in
    ap (λ x. slice_cmp nat_cmp x (get_or (pair_names xs) (k + 1) d)) first ∙ ap (slice_cmp nat_cmp (get_or xs k p).0.now) second ∙ less

-- all names that pass, sorted
pub in_order : (files : List FileRows) (heads : Heads) (entries : List Entry) (test : List ℕ → Bool) (count : ℕ)
    (was items : List (Bor (List ℕ) × ℕ))
    → IsTable files heads entries → ((name : List ℕ) → IsNowhere name (names_of files entries) → test name ≡ false) → length entries ≤ count
    → AreFound files entries test count was → IsPermutation was items → IsSorted pair_cmp items → AreInOrder test (pair_names items)
in_order files heads entries test count was items table closed all found moved sorted = record {
  each = All-permutation (λ n. test n ≡ true) (filter test names) (pair_names items) permuted (filter_passes test names);
  whole = λ name passes. Contains-permutation (filter test names) (pair_names items) name permuted (there name passes);
  rising = rising items sorted (AllPairs-from_IsDistinct bytes_eq-Decides (pair_names items)
      (IsDistinct-IsPermutation bytes_eq nat_list_eq_equiv.symm (filter test names) (pair_names items) permuted
      (distinct_filter test names (distinct_names files heads entries table))));
}
  where
    names : List (List ℕ)
    names = names_of files entries

    permuted : IsPermutation (filter test names) (pair_names items)
    permuted =
        subst (λ xs. IsPermutation xs (pair_names items))
        (found.names ∙ ap (filter test) (take_all count names (omega (arith, all, length-map entries (entry_name files)))))
        (IsPermutation-map (λ p. p.0.now) was items moved)

    known : (name : List ℕ) → test name ≡ true → list_any (bytes_eq name) names ≡ true
    known name passes =
        true_from_ne_false (list_any (bytes_eq name) names) (λ none. both_ways _ (closed name (λ k h is. both_ways _ none
        (list_any_at (bytes_eq name) names k [] (omega (arith, h)) ((bytes_eq-Decides name (get_or names k [])).1 (sym is))))) passes)

    there : (name : List ℕ) → test name ≡ true → Contains (filter test names) name
    there name passes =
        let same : (k : List ℕ) → bytes_eq name k ≡ true → test k ≡ true = λ k is. ap test (sym ((bytes_eq-Decides name k).0 is))
        ∙ passes in
        Contains-from_any (λ x y is. (bytes_eq-Decides x y).0 is) name (filter test names)
        (any-filter_same (bytes_eq name) test true same names ∙ known name passes)

-- telling, one name further
pub told_next : (files : List FileRows) (noted : List (List ℕ)) (pairs : List (Bor (List ℕ) × ℕ)) (i : ℕ) (d : Bor (List ℕ) × ℕ)
    (es : List ExportName) (e : ExportName)
    → AreTold files noted (take i (pair_names pairs)) es → i < length pairs → e.name.items ≡ (get_or pairs i d).0.now
    → IsToldIn files noted e
    → AreTold files noted (take (i + 1) (pair_names pairs)) (es ++ e ∷ [])
told_next files noted pairs i d es e told within is here =
    let name : get_or (pair_names pairs) i [] ≡ e.name.items = get_or-map (λ p. p.0.now) pairs i d [] within ∙ sym is in
    let inside : i < length (pair_names pairs) = omega (arith, within, length-map pairs (λ p. p.0.now)) in
    record {
      names_are =
          map-append (λ x. x.name.items) es (e ∷ []) ∙ ap (λ ns. ns ++ e.name.items ∷ []) told.names_are
          ∙ ap (λ n. take i (pair_names pairs) ++ n ∷ []) (sym name) ∙ sym (take_more (pair_names pairs) i [] inside);
      each = All-push (IsToldIn files noted) es e told.each here;
    }

pub all_told : (files : List FileRows) (noted : List (List ℕ)) (pairs : List (Bor (List ℕ) × ℕ)) (i : ℕ) (es : List ExportName)
    → AreTold files noted (take i (pair_names pairs)) es → length pairs ≤ i → AreTold files noted (pair_names pairs) es
all_told files noted pairs i es told all =
    subst (λ ns. AreTold files noted ns es) (take_all i (pair_names pairs) (omega (arith, all, length-map pairs (λ p. p.0.now)))) told
