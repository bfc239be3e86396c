-- A relation of neighbours.
--
-- It holds of the neighbours among one more element if it holds of the last two of them. It holds of all neighbours of a list if it holds
-- of those below its length.
use Rattle.std.proofs.Common.{◌≡◌, ℕ, ◌+◌, ◌-◌, ◌<◌, ◌≤◌, List, length, get_or, subst, ap, ◌∙◌, inl, inr, arith}
use Rattle.std.proofs.lemmas.Bool.{cases_lt}
use Rattle.std.proofs.lemmas.List.{get_or_default}
use Rattle.macho_model.specs.Lists.{EachNext}

-- a relation holds of each neighbours of which the later one has a number below n
abbrev pub NextBelow : {X : Type 0} → (X → X → Type 0) → List X → ℕ → Type 0
NextBelow {X} R xs n = (k : ℕ) (d e : X) → k + 1 < n → R (get_or xs k d) (get_or xs (k + 1) e)

-- one more
pub next_more : {X : Type 0} (R : X → X → Type 0) (xs : List X) (n : ℕ) (d e : X) → NextBelow R xs n → 1 ≤ n → n < length xs
    → R (get_or xs (n - 1) d) (get_or xs n e) → NextBelow R xs (n + 1)
next_more R xs n d e old some within last k f g low = elim (cases_lt (k + 1) n) [
  | inl before ↦ old k f g before
  | inr late ↦
      let here : n - 1 ≡ k = omega arith in
      let there : n ≡ k + 1 = omega arith in
      subst (λ y. R (get_or xs k f) y) (ap (λ i. get_or xs i e) there ∙ get_or_default xs (k + 1) e g (omega arith))
      (subst (λ x. R x (get_or xs n e)) (ap (λ i. get_or xs i d) here ∙ get_or_default xs k d f (omega arith)) last)
]

-- all
pub next_all : {X : Type 0} (R : X → X → Type 0) (xs : List X) (n : ℕ) → NextBelow R xs n → length xs ≤ n → EachNext R xs
next_all R xs n all over k x y first second =
    subst (λ b. R x b) second.1 (subst (λ a. R a (get_or xs (k + 1) y)) first.1 (all k x y (omega (arith, second.0))))
