-- Sorted names: all of them, each less than the next.
--
-- The list begins as all names with their numbers, and sorting is a permutation of it. Of two neighbours the second is not
-- less than the first. Were their names equal, they would be one name with one number, since names are distinct; but
-- the numbers of two places differ. So the first name is the lesser one. Two such names are equal up to the first byte in
-- which they differ, or up to the end of the first one, and there the first one's byte is the lesser.
use Rattle.std.proofs.Common.{◌≡◌, ◌≢◌, ◌⊎◌, ℕ, zero, suc, ◌+◌, ◌<◌, ◌≤◌, ◌==◌, true, false, nat_lt, List, [], ◌∷◌, ◌++◌, length, take, map, slice_index, get_or, Contains, IsPermutation, refl, sym, ap, subst, ◌∙◌, arith, inl, inr, Bor}
use Rattle.std.specs.List.{AllPairs, range_with_len}
use Rattle.std.specs.List.Sorted.{IsSorted}
use Rattle.std.specs.Cmp.Lexicographic.{slice_cmp}
use Rattle.std.specs.Ordering.{nat_cmp, ordering_then, ordering_reverse, is_lt}
use Rattle.std.specs.declared.cmp.Ordering.{Ordering}
use Rattle.std.specs.declared.cmp.Ordering.TheVariants.{Less, Equal, Greater}
use Rattle.std.specs.FinMap.{slice_cmp-IsAntisymmetric, nat_cmp-IsAntisymmetric}
use Rattle.std.proofs.lemmas.Bool.{cases_lt}
use Rattle.std.proofs.lemmas.Bool.Decides.{nat_tests, Decides-eqb}
use Rattle.std.proofs.lemmas.Cmp.{nat_list_cmp_total}
use Rattle.std.proofs.lemmas.List.{get_or-map, get_or_default, length-map, map-append}
use Rattle.std.proofs.lemmas.List.FromFn.{get_or-map-range_with_len, length-map-range_with_len, map-range_with_len_more}
use Rattle.macho_trie.specs.declared.symbols.Symbol.{Symbol}
use Rattle.std.proofs.lemmas.List.Sorted.{IsPermutation-map, IsPermutation-sym, Contains-permutation, length_permutation}
use Rattle.std.proofs.lemmas.Map.Keys.{IsDistinct-IsPermutation}
use Rattle.std.proofs.lemmas.Map.Made.{AllPairs-from_IsDistinct, IsDistinct-from_AllPairs}
use Rattle.macho_trie.specs.Tables.{name_at}
use Rattle.macho_trie.proofs.Arriving.{IsLess}
use Rattle.macho_trie.specs.Sorting.{AreDistinct}
use Rattle.macho_trie.specs.steps.Sorting.{pair_at, AreSorted, AreShared}

-- all names with their numbers
abbrev pub numbered : List (List ℕ) → ℕ → List (List ℕ × ℕ)
numbered names n = map (λ (k : ℕ). (let p : List ℕ × ℕ = (name_at names k, k) in p)) (range_with_len 0 n)

abbrev pub seen : Bor (List ℕ) × ℕ → List ℕ × ℕ
seen p = (p.0.now, p.1)

abbrev pub pair_cmp : Bor (List ℕ) × ℕ → Bor (List ℕ) × ℕ → Ordering
pair_cmp x y = ordering_then (slice_cmp nat_cmp x.0.now y.0.now) (nat_cmp x.1 y.1)

length-numbered : (names : List (List ℕ)) (n : ℕ) → length (numbered names n) ≡ n
length-numbered names n = length-map-range_with_len _ 0 n

numbered_at : (names : List (List ℕ)) (n k : ℕ) (d : List ℕ × ℕ) → k < n → get_or (numbered names n) k d ≡ (name_at names k, k)
numbered_at names n k d h = get_or-map-range_with_len _ 0 n k k d h (omega arith)

-- what is in the list
contains_in : (names : List (List ℕ)) (n : ℕ) (name : List ℕ) (s : ℕ) → n ≡ length names → Contains (numbered names n) (name, s)
    → (s < length names) × (name_at names s ≡ name)
contains_in names n name s is c =
    let at = numbered_at names n c.0 (name, s) (omega (arith, c.1, length-numbered names n)) in
    let both : (let p : List ℕ × ℕ = (name_at names c.0, c.0) in p) ≡ (name, s) = sym at ∙ c.2 in
    let number : c.0 ≡ s = ap (λ (p : List ℕ × ℕ). p.1) both in
    let name_is : name_at names c.0 ≡ name = ap (λ (p : List ℕ × ℕ). p.0) both in
    (omega (arith, c.1, length-numbered names n), ap (λ (k : ℕ). name_at names k) (sym number) ∙ name_is)

in_contains : (names : List (List ℕ)) (n : ℕ) (name : List ℕ) (s : ℕ) → n ≡ length names → s < length names → name_at names s ≡ name
    → Contains (numbered names n) (name, s)
in_contains names n name s is here name_is = (
  s,
  omega (arith, length-numbered names n),
  numbered_at names n s (name, s) (omega arith) ∙ ap (λ (x : List ℕ). (let p : List ℕ × ℕ = (x, s) in p)) name_is,
)

-- the numbers of two places differ
apart : (names : List (List ℕ)) (n : ℕ) (pairs : List (List ℕ × ℕ)) → IsPermutation (numbered names n) pairs
    → AllPairs (λ x y. x ≢ y) (map (λ (p : List ℕ × ℕ). p.1) pairs)
apart names n pairs moved =
    AllPairs-from_IsDistinct Decides-eqb (map (λ (p : List ℕ × ℕ). p.1) pairs)
    (IsDistinct-IsPermutation (λ x y. x == y) flips (map (λ (p : List ℕ × ℕ). p.1) (numbered names n)) (map (λ (p : List ℕ × ℕ). p.1) pairs)
    (IsPermutation-map (λ (p : List ℕ × ℕ). p.1) (numbered names n) pairs moved)
    (IsDistinct-from_AllPairs Decides-eqb (map (λ (p : List ℕ × ℕ). p.1) (numbered names n)) first))
  where
    flips : (x y : ℕ) → (x == y) ≡ (y == x)
    flips x y = grind (arith, nat_tests)

    number : (k d : ℕ) → k < n → get_or (map (λ (p : List ℕ × ℕ). p.1) (numbered names n)) k d ≡ k
    number k d h =
        get_or-map (λ (p : List ℕ × ℕ). p.1) (numbered names n) k ([], d) d (omega (arith, length-numbered names n))
        ∙ ap (λ (p : List ℕ × ℕ). p.1) (numbered_at names n k ([], d) h)

    first : AllPairs (λ x y. x ≢ y) (map (λ (p : List ℕ × ℕ). p.1) (numbered names n))
    first i j d before within same =
        let long : length (map (λ (p : List ℕ × ℕ). p.1) (numbered names n)) ≡ n = length-map (numbered names n) (λ (p : List ℕ × ℕ).
        p.1) ∙ length-numbered names n in
        omega (arith, number i d (omega arith), number j d (omega arith))

-- names that are equal have one number
one_number : (names : List (List ℕ)) (i j : ℕ) → AreDistinct names → i < length names → j < length names
    → name_at names i ≡ name_at names j → i ≡ j
one_number names i j distinct first second same =
    elim (cases_lt i j) [
      | inl low ↦ absurd (distinct i j [] low second same)
      | inr high ↦ elim (cases_lt j i) [
        | inl low ↦ absurd (distinct j i [] low first (sym same))
        | inr equal ↦ omega arith
      ]
    ]

-- two neighbours, of which the second is not less
less_of : (x y : List ℕ × ℕ) → is_lt (ordering_then (slice_cmp nat_cmp y.0 x.0) (nat_cmp y.1 x.1)) ≡ false → (x.0 ≡ y.0 → ⊥)
    → slice_cmp nat_cmp x.0 y.0 ≡ Less
less_of x y not_less differ =
    let flip = nat_list_cmp_total.antisymm y.0 x.0 in
    elim (slice_cmp nat_cmp x.0 y.0) as (λ o. slice_cmp nat_cmp x.0 y.0 ≡ o → o ≡ Less) [
      | Less ↦ λ e. refl
      | Equal ↦ λ e. absurd (differ (slice_cmp-IsAntisymmetric nat_cmp-IsAntisymmetric x.0 y.0 e))
      | Greater ↦ λ e. let less : slice_cmp nat_cmp y.0 x.0 ≡ Less = flip ∙ ap ordering_reverse e in
          let no : is_lt (ordering_then Less (nat_cmp y.1 x.1)) ≡ false = ap (λ (o : Ordering). is_lt (ordering_then o (nat_cmp y.1
          x.1))) (sym less) ∙ not_less in
          absurd (cc)
    ] refl

-- the pairs of a sorted list
sorted_at : (items : List (Bor (List ℕ) × ℕ)) (k : ℕ) → IsSorted pair_cmp items → k + 1 < length items
    → is_lt (ordering_then (slice_cmp nat_cmp (pair_at (map seen items) (k + 1)).0 (pair_at (map seen items) k).0)
    (nat_cmp (pair_at (map seen items) (k + 1)).1 (pair_at (map seen items) k).1)) ≡ false
sorted_at [] k sorted within = absurd (omega arith)
sorted_at (x ∷ items) k sorted within =
    let here : pair_at (map seen (x ∷ items)) k ≡ seen (get_or (x ∷ items) k x) = get_or-map seen (x ∷ items) k x ([], 0) (omega arith) in
    let next : pair_at (map seen (x ∷ items)) (k + 1) ≡ seen (get_or (x ∷ items) (k + 1) x) = get_or-map seen (x ∷ items) (k + 1) x
    ([], 0) within in
    let not_less = sorted k x (omega arith) within in
    let L : List ℕ × ℕ → List ℕ × ℕ → Type 0 = λ p q. is_lt (ordering_then (slice_cmp nat_cmp q.0 p.0) (nat_cmp q.1 p.1)) ≡ false in
    let H : List ℕ × ℕ → Type 0 = λ p. L p (pair_at (map seen (x ∷ items)) (k + 1)) in
    let N : List ℕ × ℕ → Type 0 = λ q. L (seen (get_or (x ∷ items) k x)) q in
    subst H (sym here) (subst N (sym next) not_less)

pub are_sorted : (names : List (List ℕ)) (was items : List (Bor (List ℕ) × ℕ)) (n : ℕ) → AreDistinct names → n ≡ length names
    → map seen was ≡ numbered names n → IsPermutation was items → IsSorted pair_cmp items → AreSorted names (map seen items)
are_sorted names was items n distinct is begins moved sorted = record {
  count = count;
  all = λ name s. (there name s, back name s);
  rising = rising;
}
  where
    permuted : IsPermutation (numbered names n) (map seen items)
    permuted = let P : List (List ℕ × ℕ) → Type 0 = λ l. IsPermutation l (map seen items) in subst P begins (IsPermutation-map seen was
        items moved)

    count : length (map seen items) ≡ length names
    count = omega (arith, length_permutation (numbered names n) (map seen items) permuted, length-numbered names n)

    there : (name : List ℕ) (s : ℕ) → Contains (map seen items) (name, s) → (s < length names) × (name_at names s ≡ name)
    there name s c = contains_in names n name s is
        (Contains-permutation (map seen items) (numbered names n) (name, s) (IsPermutation-sym (numbered names n) (map seen items)
        permuted) c)

    back : (name : List ℕ) (s : ℕ) → (s < length names) × (name_at names s ≡ name) → Contains (map seen items) (name, s)
    back name s h = Contains-permutation (numbered names n) (map seen items) (name, s) permuted (in_contains names n name s is h.0 h.1)

    at : (k : ℕ) → k < length (map seen items)
        → ((pair_at (map seen items) k).1 < length names) × (name_at names (pair_at (map seen items) k).1 ≡ (pair_at (map seen items) k).0)
    at k h = there (pair_at (map seen items) k).0 (pair_at (map seen items) k).1 (k, h, same k h)
      where
        same : (k : ℕ) → k < length (map seen items) → get_or (map seen items) k (pair_at (map seen items) k) ≡ pair_at (map seen items) k
        same k h = get_or_default (map seen items) k (pair_at (map seen items) k) ([], 0) h

    rising : (k : ℕ) → k + 1 < length (map seen items) → slice_cmp nat_cmp (pair_at (map seen items) k).0 (pair_at (map seen items) (k
        + 1)).0 ≡ Less
    rising k h =
        less_of (pair_at (map seen items) k) (pair_at (map seen items) (k + 1)) (sorted_at items k sorted (omega (
          arith,
          length-map
              items seen,
        )))
        (λ same_name.
        let first = at k (omega arith) in
        let second = at (k + 1) h in
        let number = one_number names _ _ distinct first.0 second.0 (first.1 ∙ same_name ∙ sym second.1) in
        apart names n (map seen items) permuted k (k + 1) 0 (omega arith) (omega (
          arith,
          length-map (map seen items) (λ (p : List ℕ ×
              ℕ). p.1),
        ))
        (get_or-map (λ (p : List ℕ × ℕ). p.1) (map seen items) k ([], 0) 0 (omega arith) ∙ number
        ∙ sym (get_or-map (λ (p : List ℕ × ℕ). p.1) (map seen items) (k + 1) ([], 0) 0 h)))

-- one name more before sorting
pub numbered_more : (items view : List Symbol) (before after : List (Bor (List ℕ) × ℕ)) (k : ℕ) (d : Symbol)
    → map seen before ≡ numbered (map (λ (i : Symbol). i.name.now) items) k → after ≡ before ++ ((get_or view k d).name, k) ∷ []
    → view ≡ items → k < length items → map seen after ≡ numbered (map (λ (i : Symbol). i.name.now) items) (k + 1)
numbered_more items view before after k d same pushed is within =
    let names : List (List ℕ) = map (λ (i : Symbol). i.name.now) items in
    let text : Bor (List ℕ) = (get_or view k d).name in
    let name_is : text.now ≡ name_at names k
    = ap (λ (xs : List Symbol). (get_or xs k d).name.now) is
    ∙ sym (get_or-map (λ (i : Symbol). i.name.now) items k d [] within) in
    let one : (let p : List ℕ × ℕ = (text.now, k) in p) ≡ (name_at names k, k) = ap (λ (n : List ℕ). (let p : List ℕ × ℕ = (n, k) in
    p)) name_is in
    ap (λ (xs : List (Bor (List ℕ) × ℕ)). map seen xs) pushed
    ∙ map-append seen before ((text, k) ∷ [])
    ∙ ap (λ (xs : List (List ℕ × ℕ)). xs ++ (text.now, k) ∷ []) same
    ∙ ap (λ (p : List ℕ × ℕ). numbered names k ++ p ∷ []) one
    ∙ sym (map-range_with_len_more _ 0 k k (omega arith))

-- the lesser of two names, by the bytes that they share
heads_less : (x y : ℕ) (rest : Ordering) → ordering_then (nat_cmp x y) rest ≡ Less → x ≢ y → x < y
heads_less x y rest less differ =
    elim (cases_lt x y) [
      | inl low ↦ low
      | inr high ↦
          let no : nat_lt x y ≡ false = grind (arith, nat_tests) in
          let other : (x == y) ≡ false = grind (arith, nat_tests) in
          let greater : nat_cmp x y ≡ Greater = rw (no, other) refl in
          let same : Greater ≡ Less = ap (λ (o : Ordering). ordering_then o rest) (sym greater) ∙ less in
          absurd (cc)
    ]

tails_less : (x y : ℕ) (rest : Ordering) → ordering_then (nat_cmp x y) rest ≡ Less → x ≡ y → rest ≡ Less
tails_less x y rest less same =
    let no : nat_lt x y ≡ false = grind (arith, nat_tests) in
    let equal : (x == y) ≡ true = grind (arith, nat_tests) in
    let equals : nat_cmp x y ≡ Equal = rw (no, equal) refl in
    ap (λ (o : Ordering). ordering_then o rest) (sym equals) ∙ less

first_same : (x y : ℕ) (xs ys : List ℕ) → (let l : List ℕ = x ∷ xs in l) ≡ y ∷ ys → (x ≡ y) × (xs ≡ ys)
first_same x y xs ys same = (cc, cc)

less_parts : (n m : List ℕ) (shared : ℕ) → slice_cmp nat_cmp n m ≡ Less → shared ≤ length n → shared ≤ length m
    → take shared n ≡ take shared m
    → (shared ≡ length n) ⊎ ((shared ≡ length m) ⊎ (slice_index n shared ≢ slice_index m shared))
    → (shared < length m) × (shared < length n → slice_index n shared < slice_index m shared)
less_parts [] [] shared less first second same most = absurd (cc)
less_parts [] (y ∷ ys) shared less first second same most = (omega arith, λ h. absurd (omega arith))
less_parts (x ∷ xs) [] shared less first second same most = absurd (cc)
less_parts (x ∷ xs) (y ∷ ys) zero less first second same (inl end) = absurd (omega arith)
less_parts (x ∷ xs) (y ∷ ys) zero less first second same (inr (inl end)) = absurd (omega arith)
less_parts (x ∷ xs) (y ∷ ys) zero less first second same (inr (inr differ)) = (
  omega arith,
  λ h. heads_less x y (slice_cmp nat_cmp xs
      ys) less differ,
)
less_parts (x ∷ xs) (y ∷ ys) (suc k) less first second same most =
    let parts = first_same x y (take k xs) (take k ys) same in
    let rest = less_parts xs ys k (tails_less x y (slice_cmp nat_cmp xs ys) less parts.0) (omega arith) (omega arith) parts.1 (tail most) in
    (omega (arith, rest.0), λ h. rest.1 (omega arith))
  where
    tail : (suc k ≡ length (x ∷ xs)) ⊎ ((suc k ≡ length (y ∷ ys)) ⊎ (slice_index (x ∷ xs) (suc k) ≢ slice_index (y ∷ ys) (suc k)))
        → (k ≡ length xs) ⊎ ((k ≡ length ys) ⊎ (slice_index xs k ≢ slice_index ys k))
    tail (inl end) = inl (omega arith)
    tail (inr (inl end)) = inr (inl (omega arith))
    tail (inr (inr differ)) = inr (inr differ)

pub less_at : (n m : List ℕ) (shared : ℕ) → slice_cmp nat_cmp n m ≡ Less → AreShared n m shared → IsLess n m shared
less_at n m shared less s =
    let parts = less_parts n m shared less s.first s.second s.same s.most in
    record { same = s.same; within = s.first; parts = parts.0; less = parts.1 }
