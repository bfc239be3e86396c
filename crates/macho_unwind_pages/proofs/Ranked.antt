-- Ranks: sorted entries of the table of counts are the codes in the order of their ranks.
--
-- A code ranks before another if its pair of count and value is the greater one, so ranking is a strict total order. The
-- keys of the table differ, and each has its count; sorted so that none is less than the one before it, neighbours rank one
-- before the other, and so the keys rise by rank. They are the codes that stand in the list at all. So they are the ranks.
use Rattle.std.proofs.Common.{◌≡◌, ℕ, suc, ◌+◌, ◌<◌, ◌≤◌, ◌==◌, ◌||◌, ◌&&◌, not, Bool, if◌then◌else◌, true, false, cond, nat_lt, nat_eq, None, Some, is_some, unwrap_or, List, [], ◌∷◌, length, take, drop, get_or, slice_index, refl, sym, ap, ◌∙◌, arith, inl, inr, ◌⊎◌}
use Rattle.std.specs.List.{list_any, position}
use Rattle.std.proofs.lemmas.Bool.{cases_Bool, cases_eq, eqb-true, eq-eqb, ne_eqb, lt-ltb, le-ltb, cases_order, or_parts}
use Rattle.std.proofs.lemmas.Bool.Decides.{nat_tests, Decides-eqb}
use Rattle.std.proofs.lemmas.List.Sums.{count_by_more_yes, count_by_more_no, count_by-le-length, sum_by-cons}
use Rattle.std.specs.List.Sorted.{IsSortedBy}
use Rattle.std.specs.Cmp.{IsStrictWeakOrder}
use Rattle.std.specs.Ordering.{nat_cmp, ordering_then, is_lt}
use Rattle.std.proofs.lemmas.Cmp.{nat_eq_equiv}
use Rattle.std.proofs.lemmas.List.{length-take, get_or-map, length-map, get_or-take, take-append-drop}
use Rattle.std.proofs.lemmas.List.Quantifiers.{position-Some}
use Rattle.std.proofs.lemmas.List.Folds.{list_any_at, list_any_none, list_any-append}
use Rattle.std.proofs.lemmas.Map.Made.{is_some-lookup, AllPairs-from_IsDistinct}
use Rattle.std.proofs.lemmas.Map.Entries.{hash_map_get_place}
use Rattle.std.proofs.lemmas.Option.{slice_get-get_or}
use Rattle.indexmap.specs.IndexMap.{IndexMap, keys, get, IsUnique}
use Rattle.macho_unwind_pages.specs.steps.Tallies.{locals_in}
use Rattle.macho_unwind_pages.specs.steps.Ranks.{Counts, IsNumberOf, ranked}
use Rattle.macho_unwind_pages.specs.Entries.{times}
use Rattle.macho_unwind_pages.proofs.Orders.{IsStrict, Rises, has, above_weaker, in_order-unique}
use Rattle.macho_unwind_pages.specs.steps.Entries.{ranks_before}

-- the test on two counts and two codes
abbrev pub outranks : ℕ → ℕ → ℕ → ℕ → Bool
outranks s t a b = nat_lt t s || (s == t && nat_lt b a)

-- the order of ranks is strict
pub ranks_before-strict : (codes : List ℕ) → IsStrict (ranks_before codes)
ranks_before-strict codes = record {
  one_way = λ x y h. one_way (times codes x) (times codes y) x y h;
  chain = λ x y z h k. chain (times codes x) (times codes y) (times codes z) x y z h k;
  total = λ x y h k. total (times codes x) (times codes y) x y h k;
}
  where
    one_way : (s t a b : ℕ) → outranks s t a b ≡ true → outranks t s b a ≡ false
    one_way s t a b h = grind (arith, nat_tests)

    chain : (s t u a b c : ℕ) → outranks s t a b ≡ true → outranks t u b c ≡ true → outranks s u a c ≡ true
    chain s t u a b c h k = grind (arith, nat_tests)

    total : (s t a b : ℕ) → outranks s t a b ≡ false → outranks t s b a ≡ false → a ≡ b
    total s t a b h k = grind (arith, nat_tests)

-- one code more
times-more : (codes : List ℕ) (i code : ℕ) → i < length codes
    → times (take (i + 1) codes) code ≡ times (take i codes) code + cond (code == slice_index codes i) 1 0
times-more codes i code within =
    elim (cases_Bool (code == slice_index codes i)) [
      | inl e ↦ rw e (count_by_more_yes (λ other. code == other) codes i 0 within e)
      | inr n ↦ rw n (count_by_more_no (λ other. code == other) codes i 0 within n ∙ omega arith)
    ]

-- a code stands among the first i codes i times at most
pub times-le : (codes : List ℕ) (i code : ℕ) → i ≤ length codes → times (take i codes) code ≤ i
times-le codes i code within =
    omega (arith, count_by-le-length (λ other. code == other) (take i codes), length-take i codes)

-- a table with one code more
pub counts_more : {S : Type 0} (codes : List ℕ) (i code n : ℕ) (was now : IndexMap ℕ ℕ S) → i < length codes → code ≡ slice_index codes i
    → Counts (take i codes) was → n ≡ times (take i codes) code + 1
    → ((q : ℕ) → get nat_eq now q ≡ cond (nat_eq code q) (Some n) (get nat_eq was q)) → Counts (take (i + 1) codes) now
counts_more codes i code n was now within is before count updates q =
    elim (cases_eq code q) [
      | inl e ↦
          let more : times (take (i + 1) codes) q ≡ times (take i codes) q + 1
          = times-more codes i q within ∙ ap (λ b. times (take i codes) q + cond b 1 0) (eq-eqb q (slice_index codes i) (sym e ∙ is)) in
          let same : times (take (i + 1) codes) q ≡ n = more ∙ sym (ap (λ w. times (take i codes) w + 1) e) ∙ sym count in
          updates q ∙ rw (eq-eqb code q e, same, ne_eqb n 0 (λ z. absurd (omega (arith, count)))) refl
      | inr differ ↦
          let more : times (take (i + 1) codes) q ≡ times (take i codes) q
          = times-more codes i q within
          ∙ ap (λ b. times (take i codes) q + cond b 1 0) (ne_eqb q (slice_index codes i) (λ e. differ (is ∙ sym e)))
          ∙ omega arith in
          updates q ∙ rw (ne_eqb code q differ, more) (before q)
    ]

-- what the table tells of a code
pub told : {S : Type 0} (codes : List ℕ) (counts : IndexMap ℕ ℕ S) (code n : ℕ) → Counts codes counts → get nat_eq counts code ≡ Some n
    → n ≡ times codes code
told codes counts code n all is =
    elim (cases_Bool (times codes code == 0)) [
      | inl none ↦ let e : get nat_eq counts code ≡ None = all code ∙ rw none refl in absurd (cc)
      | inr some ↦ let e : get nat_eq counts code ≡ Some (times codes code) = all code ∙ rw some refl in cc
    ]

-- what the table tells of a code, 0 where it tells nothing, is how often the code stands
pub unwrapped : {S : Type 0} (codes : List ℕ) (counts : IndexMap ℕ ℕ S) (code : ℕ) → Counts codes counts
    → unwrap_or (get nat_eq counts code) 0 ≡ times codes code
unwrapped codes counts code all =
    elim (cases_Bool (times codes code == 0)) [
      | inl none ↦ ap (λ o. unwrap_or o 0) (all code) ∙ rw none (sym (eqb-true (times codes code) 0 none))
      | inr some ↦ ap (λ o. unwrap_or o 0) (all code) ∙ rw some refl
    ]

-- a code stands in a list where it stands at all
stands : (codes : List ℕ) (code : ℕ) → not (times codes code == 0) ≡ has code codes
stands [] code = refl
stands (x ∷ codes) code =
    elim (cases_Bool (code == x)) [
      | inl e ↦ rw (sum_by-cons (λ other. cond (code == other) 1 0) x codes, e)
          (ap not (ne_eqb (1 + times codes code) 0 (λ z. absurd (omega arith))))
      | inr n ↦ rw (sum_by-cons (λ other. cond (code == other) 1 0) x codes, n)
          (ap (λ (t : ℕ). not (t == 0)) (omega arith) ∙ stands codes code)
    ]

keys_has : {S : Type 0} (codes : List ℕ) (counts : IndexMap ℕ ℕ S) (code : ℕ) → Counts codes counts
    → has code (keys counts) ≡ has code codes
keys_has codes counts code is =
    sym (is_some-lookup (nat_eq code) counts.entries) ∙ ap is_some (is code)
    ∙ told_if (times codes code == 0) (times codes code) ∙ stands codes code
  where
    told_if : (b : Bool) (n : ℕ) → is_some (if b then None else Some n) ≡ not b
    told_if true n = refl
    told_if false n = refl

-- neighbours in order make the whole rise
rises_from_neighbours : (before : ℕ → ℕ → Bool) (xs : List ℕ) → IsStrict before
    → ((k j : ℕ) → j ≡ k + 1 → j < length xs → before (slice_index xs k) (slice_index xs j) ≡ true) → Rises before xs
rises_from_neighbours before [] s next = tt
rises_from_neighbours before (x ∷ []) s next = (tt, tt)
rises_from_neighbours before (x ∷ y ∷ xs) s next =
    let rest = rises_from_neighbours before (y ∷ xs) s (λ k j e h. next (suc k) (suc j) (omega arith) (omega arith)) in
    let first : before x y ≡ true = next 0 1 (omega arith) (omega arith) in
    ((first, above_weaker before x y xs s first rest.0), rest)

-- the order of the sort
pub sorts_by-weak : IsStrictWeakOrder (λ (p q : ℕ × ℕ). outranks p.1 q.1 p.0 q.0)
sorts_by-weak = record {
  one_way = λ x y h. one_way x.1 y.1 x.0 y.0 h;
  chain = λ x y z h k. chain x.1 y.1 z.1 x.0 y.0 z.0 h k;
}
  where
    one_way : (s t a b : ℕ) → outranks s t a b ≡ true → outranks t s b a ≡ false
    one_way s t a b h = grind (arith, nat_tests)

    chain : (s t u a b c : ℕ) → outranks s t a b ≡ false → outranks t u b c ≡ false → outranks s u a c ≡ false
    chain s t u a b c h k = grind (arith, nat_tests)

-- what the closure of the sort answers
pub outranks-compares : (s t a b : ℕ) → is_lt (ordering_then (nat_cmp t s) (nat_cmp b a)) ≡ outranks s t a b
outranks-compares s t a b =
    elim (cases_order t s) [
      | inl e ↦ elim (cases_order b a) [
        | inl f ↦ rw (le-ltb t s (omega arith), eq-eqb t s e, le-ltb b a (omega arith), eq-eqb b a f, eq-eqb s t (sym e)) refl
        | inr (inl f) ↦ rw (le-ltb t s (omega arith), eq-eqb t s e, lt-ltb b a f, eq-eqb s t (sym e)) refl
        | inr (inr f) ↦
            let other = ne_eqb b a (λ g. absurd (omega arith)) in
            rw (le-ltb t s (omega arith), eq-eqb t s e, le-ltb b a (omega arith), other, eq-eqb s t (sym e)) refl
      ]
      | inr (inl e) ↦ rw (lt-ltb t s e) refl
      | inr (inr e) ↦ rw (le-ltb t s (omega arith), ne_eqb t s (λ g. absurd (omega arith)), ne_eqb s t (λ g. absurd (omega arith))) refl
    ]

abbrev entry_in : List (ℕ × ℕ) → ℕ → ℕ × ℕ
entry_in entries k = get_or entries k (0, 0)

-- sorted keys are the ranks
pub keys_ranked : {S : Type 0} (codes : List ℕ) (counts : IndexMap ℕ ℕ S) → IsUnique nat_eq counts → Counts codes counts
    → IsSortedBy (λ (p q : ℕ × ℕ). outranks p.1 q.1 p.0 q.0) counts.entries → keys counts ≡ ranked codes
keys_ranked codes counts once is sorted =
    in_order-unique (ranks_before codes) codes (keys counts) (ranks_before-strict codes)
    (rises_from_neighbours (ranks_before codes) (keys counts) (ranks_before-strict codes) next)
    (λ z. keys_has codes counts z is)
  where
    step : (s t a b s' t' a' b' : ℕ) → s ≡ s' → t ≡ t' → a ≡ a' → b ≡ b' → outranks t' s' b' a' ≡ false → (a' ≡ b' → ⊥)
        → outranks s t a b ≡ true
    step s t a b s' t' a' b' es et ea eb h differ = grind (arith, nat_tests)

    key : (k : ℕ) → k < length counts.entries → slice_index (keys counts) k ≡ (entry_in counts.entries k).0
    key k h = get_or-map (λ (e : ℕ × ℕ). e.0) counts.entries k (0, 0) 0 h

    count : (k : ℕ) → k < length counts.entries → (entry_in counts.entries k).1 ≡ times codes (entry_in counts.entries k).0
    count k h = told codes counts _ _ is (hash_map_get_place nat_eq_equiv counts k _ _ once (slice_get-get_or counts.entries k (0, 0) h))

    next : (k j : ℕ) → j ≡ k + 1 → j < length (keys counts)
        → ranks_before codes (slice_index (keys counts) k) (slice_index (keys counts) j) ≡ true
    next k j e h =
        let within : j < length counts.entries = omega (arith, length-map counts.entries (λ (e : ℕ × ℕ). e.0)) in
        let here : k < length counts.entries = omega arith in
        let now = entry_in counts.entries k in
        let after = entry_in counts.entries (k + 1) in
        let not_less : outranks after.1 now.1 after.0 now.0 ≡ false
        = sorted k (0, 0) (omega arith) (omega arith) in
        let j_is : entry_in counts.entries j ≡ entry_in counts.entries (k + 1) = ap (entry_in counts.entries) e in
        step (times codes (slice_index (keys counts) k)) (times codes (slice_index (keys counts) j)) (slice_index (keys counts) k)
        (slice_index (keys counts) j) now.1 after.1 now.0 after.0
        (ap (times codes) (key k here) ∙ sym (count k here))
        (ap (times codes) (key j within) ∙ sym (count j within) ∙ ap (λ (p : ℕ × ℕ). p.1) j_is)
        (key k here) (key j within ∙ ap (λ (p : ℕ × ℕ). p.0) j_is) not_less
        (λ same. AllPairs-from_IsDistinct Decides-eqb (keys counts) once k j 0 (omega arith) h
        (key k here ∙ same ∙ sym (ap (λ (p : ℕ × ℕ). p.0) j_is) ∙ sym (key j within)))

-- the number of a code among the first ones
pub among_first : (keys : List ℕ) (code rank n : ℕ) → position (λ other. code == other) keys ≡ Some rank → rank < n
    → IsNumberOf (take n keys) code rank × (list_any (λ other. code == other) (take n keys) ≡ true)
among_first keys code rank n is low =
    let at = position-Some (λ other. code == other) keys rank 0 is in
    let within : rank < length (take n keys) = omega (arith, at.0, length-take n keys) in
    let same : get_or (take n keys) rank 0 ≡ get_or keys rank 0 = get_or-take n keys rank 0 low in (
      (within, same ∙ sym (eqb-true code (get_or keys rank 0) at.1)),
      list_any_at (λ other. code == other) (take n keys) rank 0 within (ap (λ other. code == other) same ∙ at.1),
    )

-- a code whose first place is n or later is not among the first n
pub behind_first : (keys : List ℕ) (code rank n : ℕ) → position (λ other. code == other) keys ≡ Some rank → n ≤ rank
    → list_any (λ other. code == other) (take n keys) ≡ false
behind_first keys code rank n is high =
    list_any_none (λ other. code == other) (take n keys) (λ k d h.
    let low : k < n = omega (arith, length-take n keys) in
    let at = position-Some (λ other. code == other) keys rank d is in
    ap (λ other. code == other) (get_or-take n keys k d low) ∙ at.2 k (omega arith))

-- a code that a list has nowhere is not among its first ones
pub nowhere : (keys : List ℕ) (code n : ℕ) → list_any (λ other. code == other) keys ≡ false
    → list_any (λ other. code == other) (take n keys) ≡ false
nowhere keys code n none =
    (or_parts (list_any (λ other. code == other) (take n keys)) (list_any (λ other. code == other) (drop n keys))
    (sym (list_any-append (λ other. code == other) (take n keys) (drop n keys))
    ∙ ap (list_any (λ other. code == other)) (take-append-drop n keys) ∙ none)).0

-- one code more of those that not every page may name
pub local_more : (globals codes : List ℕ) (i : ℕ) → i < length codes → list_any (λ global. slice_index codes i == global) globals ≡ false
    → locals_in globals (take (i + 1) codes) ≡ locals_in globals (take i codes) + 1
local_more globals codes i within out =
    count_by_more_yes (λ code. not (list_any (λ global. code == global) globals)) codes i 0 within (ap not out)

-- a code that every page may name adds nothing
pub local_passed : (globals codes : List ℕ) (i : ℕ) → i < length codes → list_any (λ global. slice_index codes i == global) globals ≡ true
    → locals_in globals (take (i + 1) codes) ≡ locals_in globals (take i codes)
local_passed globals codes i within out =
    count_by_more_no (λ code. not (list_any (λ global. code == global) globals)) codes i 0 within (ap not out)
