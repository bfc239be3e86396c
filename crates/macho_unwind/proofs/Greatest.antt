-- Among the items of a list that are not above a bound there is a greatest one, if there is one at all.
--
-- It goes from the list's end: the first item is the greatest, or the greatest of the rest is, or all are above the bound.
use Rattle.std.proofs.Common.{ℕ, zero, suc, ◌<◌, ◌≤◌, ◌⊎◌, List, [], ◌∷◌, refl, ap, arith, inl, inr}
use Rattle.std.specs.List.{Contains, All}
use Rattle.std.proofs.lemmas.Bool.{cases_lt}

-- The greatest item not above a bound.
pub record IsTop {X : Type 0} (n : X → ℕ) (bound : ℕ) (xs : List X) : Type 0 where
  pub item : X
  pub one : Contains xs item
  pub up_to : n item ≤ bound
  pub greatest : All (λ y. n y ≤ bound → n y ≤ n item) xs

-- all items are above the bound
abbrev pub AreAbove : {X : Type 0} → (X → ℕ) → ℕ → List X → Type 0
AreAbove n bound xs = All (λ y. bound < n y) xs

all_both : {X : Type 0} (P : X → Type 0) (x : X) (xs : List X) → P x → All P xs → All P (x ∷ xs)
all_both P x xs here rest zero d lt = here
all_both P x xs here rest (suc k) d lt = rest k d (omega arith)

top_here : {X : Type 0} (n : X → ℕ) (bound : ℕ) (x : X) (xs : List X) → n x ≤ bound
    → All (λ y. n y ≤ bound → n y ≤ n x) xs → IsTop n bound (x ∷ xs)
top_here {X = X} n bound x xs up rest = record {
  item = x;
  one = (0, omega arith, refl);
  up_to = up;
  greatest = all_both (λ (y : X). n y ≤ bound → n y ≤ n x) x xs (λ b. omega arith) rest;
}

top_later : {X : Type 0} (n : X → ℕ) (bound : ℕ) (x : X) (xs : List X) (t : IsTop n bound xs)
    → (n x ≤ bound → n x ≤ n t.item) → IsTop n bound (x ∷ xs)
top_later {X = X} n bound x xs t here = record {
  item = t.item;
  one = (suc t.one.0, omega (arith, t.one.1), t.one.2);
  up_to = t.up_to;
  greatest = all_both (λ (y : X). n y ≤ bound → n y ≤ n t.item) x xs here t.greatest;
}

top_or_above : {X : Type 0} (n : X → ℕ) (bound : ℕ) (xs : List X) → IsTop n bound xs ⊎ AreAbove n bound xs
top_or_above n bound [] = inr (λ k d lt. absurd (omega arith))
top_or_above {X = X} n bound (x ∷ xs) =
    elim (top_or_above n bound xs) [
      | inl t ↦ elim (cases_lt bound (n x)) [
        | inl above ↦ inl (top_later n bound x xs t (λ b. absurd (omega arith)))
        | inr up ↦ elim (cases_lt (n t.item) (n x)) [
          | inl less ↦ inl (top_here n bound x xs up (λ k d lt b. omega (arith, t.greatest k d lt b)))
          | inr le ↦ inl (top_later n bound x xs t (λ b. le))
        ]
      ]
      | inr none ↦ elim (cases_lt bound (n x)) [
        | inl above ↦ inr (all_both (λ (y : X). bound < n y) x xs above none)
        | inr up ↦ inl (top_here n bound x xs up (λ k d lt b. absurd (omega (arith, none k d lt))))
      ]
    ]

-- where an item is not above the bound, there is a greatest such one
pub top-of : {X : Type 0} (n : X → ℕ) (bound : ℕ) (xs : List X) (x : X) → Contains xs x → n x ≤ bound → IsTop n bound xs
top-of n bound xs x (k, lt, is) up =
    elim (top_or_above n bound xs) [
      | inl t ↦ t
      | inr none ↦ absurd (omega (arith, none k x lt, ap n is))
    ]
