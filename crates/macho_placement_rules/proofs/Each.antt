-- What holds of the first elements of a list, one by one.
use Rattle.std.proofs.Common.{◌≡◌, ℕ, ◌+◌, ◌<◌, List, length, get_or, ap, subst, ◌∙◌, inl, inr, arith}
use Rattle.std.proofs.lemmas.Bool.{cases_lt}
use Rattle.std.proofs.lemmas.List.{get_or_default}

-- what holds of the first n and of the next one holds of one more
pub each_more : {X : Type 0} (P : X → Type 0) (xs : List X) (n : ℕ) (e : X) → n < length xs
    → ((k : ℕ) (d : X) → k < n → P (get_or xs k d)) → P (get_or xs n e) → (k : ℕ) (d : X) → k < n + 1 → P (get_or xs k d)
each_more P xs n e within old one k d low = elim (cases_lt k n) [
  | inl before ↦ old k d before
  | inr late ↦
      let here : n ≡ k = omega arith in
      subst P (get_or_default xs n e d within ∙ ap (λ i. get_or xs i d) here) one
]

-- so it is with two lists, number by number
pub both_more : {X Y : Type 0} (P : X → Y → Type 0) (xs : List X) (ys : List Y) (n : ℕ) (d : X) (e : Y) → n < length xs → n < length ys
    → ((k : ℕ) (d : X) (e : Y) → k < n → P (get_or xs k d) (get_or ys k e)) → P (get_or xs n d) (get_or ys n e)
    → (k : ℕ) (d : X) (e : Y) → k < n + 1 → P (get_or xs k d) (get_or ys k e)
both_more P xs ys n d e within inside old one k f g low = elim (cases_lt k n) [
  | inl before ↦ old k f g before
  | inr late ↦
      let here : n ≡ k = omega arith in
      subst (λ y. P (get_or xs k f) y) (get_or_default ys n e g inside ∙ ap (λ i. get_or ys i g) here)
      (subst (λ x. P x (get_or ys n e)) (get_or_default xs n d f within ∙ ap (λ i. get_or xs i f) here) one)
]
