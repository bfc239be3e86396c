-- How many items of a rising list are below a bound.
--
-- In a list whose numbers rise, those below a bound come first. So the item at a place is below the bound exactly where
-- the place is below their count: the first item is below it and counts, or it isn't, and then no later one is.
use Rattle.std.proofs.Common.{◌≡◌, ℕ, zero, suc, ◌+◌, ◌<◌, ◌≤◌, Bool, true, false, cond, nat_lt, List, [], ◌∷◌, length, get_or, count_by, zero-add, sym, ap, ◌∙◌, refl, arith, inl, inr}
use Rattle.std.specs.List.{AllPairs}
use Rattle.std.specs.List.Sorted.{IsNonDecreasingBy}
use Rattle.std.proofs.lemmas.Bool.{cases_lt}
use Rattle.std.proofs.lemmas.List.Sums.{sum_by-cons}
use Rattle.std.proofs.lemmas.Bool.Decides.{nat_tests}

-- the items of a list from the second on
rest_rises : {X : Type 0} (n : X → ℕ) (x : X) (xs : List X) → AllPairs (λ y z. n y < n z) (x ∷ xs) → AllPairs (λ y z. n y < n z) xs
rest_rises n x xs rising = λ i j d lt within. rising (suc i) (suc j) d (omega arith) (omega arith)

-- the first item counts, or it doesn't
count-yes : {X : Type 0} (n : X → ℕ) (s : ℕ) (x : X) (xs : List X) → n x < s
    → count_by (λ y. nat_lt (n y) s) (x ∷ xs) ≡ 1 + count_by (λ y. nat_lt (n y) s) xs
count-yes {X = X} n s x xs lt =
    let test : nat_lt (n x) s ≡ true = grind (arith, nat_tests) in
    sum_by-cons (λ (y : X). cond (nat_lt (n y) s) 1 0) x xs ∙ ap (λ (b : Bool). cond b 1 0 + count_by (λ (y : X). nat_lt (n y) s) xs) test

count-no : {X : Type 0} (n : X → ℕ) (s : ℕ) (x : X) (xs : List X) → s ≤ n x
    → count_by (λ y. nat_lt (n y) s) (x ∷ xs) ≡ count_by (λ y. nat_lt (n y) s) xs
count-no {X = X} n s x xs le =
    let test : nat_lt (n x) s ≡ false = grind (arith, nat_tests) in
    sum_by-cons (λ (y : X). cond (nat_lt (n y) s) 1 0) x xs
    ∙ ap (λ (b : Bool). cond b 1 0 + count_by (λ (y : X). nat_lt (n y) s) xs) test ∙ zero-add _

-- no item is below the bound
count-none : {X : Type 0} (n : X → ℕ) (s : ℕ) (xs : List X) → ((i : ℕ) (d : X) → i < length xs → s ≤ n (get_or xs i d))
    → count_by (λ x. nat_lt (n x) s) xs ≡ 0
count-none n s [] none = refl
count-none n s (x ∷ xs) none =
    count-no n s x xs (none 0 x (omega arith)) ∙ count-none n s xs (λ i d h. none (suc i) d (omega arith))

-- what is known of an item by its place: it is below the bound, or it isn't
pub record IsCounted {X : Type 0} (n : X → ℕ) (s : ℕ) (xs : List X) (i : ℕ) (d : X) : Type 0 where
  pub below : i < count_by (λ x. nat_lt (n x) s) xs → n (get_or xs i d) < s
  pub above : count_by (λ x. nat_lt (n x) s) xs ≤ i → s ≤ n (get_or xs i d)

-- where the first item isn't below the bound, no item is
counted-none : {X : Type 0} (n : X → ℕ) (s : ℕ) (x : X) (xs : List X) → AllPairs (λ y z. n y < n z) (x ∷ xs) → s ≤ n x
    → (i : ℕ) (d : X) → i < length (x ∷ xs)
    → IsCounted n s (x ∷ xs) i d
counted-none {X = X} n s x xs rising le i d h =
    let zero_count : count_by (λ y. nat_lt (n y) s) (x ∷ xs) ≡ 0 = count-none n s (x ∷ xs) each in
    record { below = λ b. absurd (omega (arith, zero_count)); above = λ a. each i d h }
  where
    each : (k : ℕ) (e : X) → k < length (x ∷ xs) → s ≤ n (get_or (x ∷ xs) k e)
    each zero e m = le
    each (suc k) e m = omega (arith, rising 0 (suc k) e (omega arith) m)

-- in a rising list the item at a place is below the bound exactly where the place is below the count
pub count-rising : {X : Type 0} (n : X → ℕ) (s : ℕ) (xs : List X) → AllPairs (λ y z. n y < n z) xs → (i : ℕ) (d : X) → i < length xs
    → IsCounted n s xs i d
count-rising n s [] rising i d h = absurd (omega arith)
count-rising n s (x ∷ xs) rising zero d h =
    elim (cases_lt (n x) s) [
      | inl lt ↦ record { below = λ _. lt; above = λ le. absurd (omega (arith, count-yes n s x xs lt)) }
      | inr le ↦ counted-none n s x xs rising le 0 d h
    ]
count-rising n s (x ∷ xs) rising (suc i) d h =
    let rest = count-rising n s xs (rest_rises n x xs rising) i d (omega arith) in
    elim (cases_lt (n x) s) [
      | inl lt ↦ record {
        below = λ b. rest.below (omega (arith, count-yes n s x xs lt));
        above = λ a. rest.above (omega (arith, count-yes n s x xs lt));
      }
      | inr le ↦ counted-none n s x xs rising le (suc i) d h
    ]

-- the place where a rising list is cut in two by a bound is the count of the items below it
pub count-cut : {X : Type 0} (n : X → ℕ) (s : ℕ) (xs : List X) (i : ℕ) → i ≤ length xs
    → ((k : ℕ) (d : X) → k < i → n (get_or xs k d) < s) → ((k : ℕ) (d : X) → i ≤ k → k < length xs → s ≤ n (get_or xs k d))
    → i ≡ count_by (λ x. nat_lt (n x) s) xs
count-cut n s [] i within below above = omega arith
count-cut n s (x ∷ xs) zero within below above = sym (count-none n s (x ∷ xs) (λ k d h. above k d (omega arith) h))
count-cut n s (x ∷ xs) (suc i) within below above =
    let rest = count-cut n s xs i (omega arith) (λ k d h. below (suc k) d (omega arith))
    (λ k d le h. above (suc k) d (omega arith) (omega arith)) in
    omega (arith, rest, count-yes n s x xs (below 0 x (omega arith)))

-- a rising list does not fall
pub rises_weakly : {X : Type 0} (n : X → ℕ) (xs : List X) → AllPairs (λ y z. n y < n z) xs → IsNonDecreasingBy n xs
rises_weakly n xs rising = λ i j d le within. elim (cases_lt i j) [
  | inl lt ↦ omega (arith, rising i j d lt within)
  | inr ge ↦ let same : i ≡ j = omega arith in let P : ℕ → Type 0 = λ k. n (get_or xs i d) ≤ n (get_or xs k d) in rw (← same) (omega arith)
]
