-- Lists with repeats taken out, and the place of the first element that passes a test.
--
-- Where the test tells equality, what is taken out stands earlier already, so both lists have the same elements. The first place
-- that passes is below the length where some element passes, and the element there passes.
use Rattle.std.proofs.Common.{◌≡◌, ◌+◌, ◌<◌, Bool, true, false, not, cond, List, [], ◌∷◌, length, get_or, filter, refl, sym, ap, subst, ◌∙◌, arith, inl, inr}
use Rattle.std.specs.Prelude.{Contains}
use Rattle.std.specs.List.{position_or_len}
use Rattle.std.proofs.lemmas.Bool.{cases_Bool}
use Rattle.std.proofs.lemmas.List.Sums.{passes_at_first}
use Rattle.macho_model.specs.Needs.{distinct}
use Rattle.macho_bytes.proofs.Members.{contains_first, contains_later, contains_cases, nil_contains, contains_filter, position_below}

pub in_distinct : {X : Type 0} (same : X → X → Bool) → ((x y : X) → same x y ≡ true → x ≡ y) → (xs : List X) (x : X) → Contains xs x
    → Contains (distinct same xs) x
in_distinct same equal [] x h = absurd (nil_contains x h)
in_distinct {X} same equal (y ∷ xs) x h = elim (contains_cases y xs x h) [
  | inl here ↦ subst (λ (z : X). Contains (y ∷ filter (λ w. not (same y w)) (distinct same xs)) z) here
      (contains_first y (filter (λ w. not (same y w)) (distinct same xs)))
  | inr there ↦ elim (cases_Bool (same y x)) [
    | inl equals ↦ subst (λ (z : X). Contains (y ∷ filter (λ w. not (same y w)) (distinct same xs)) z) (equal y x equals)
        (contains_first y (filter (λ w. not (same y w)) (distinct same xs)))
    | inr differs ↦ contains_later y (filter (λ w. not (same y w)) (distinct same xs)) x
        (contains_filter (λ w. not (same y w)) (distinct same xs) x (in_distinct same equal xs x there) (ap not differs))
  ]
]

-- and what stands there is equal to what is looked for
pub first_is : {X : Type 0} (same : X → X → Bool) → ((x y : X) → same x y ≡ true → x ≡ y) → (xs : List X) (x d : X) → Contains xs x
    → same x x ≡ true
    → get_or xs (position_or_len (same x) xs) d ≡ x
first_is same equal xs x d h itself =
    sym (equal x (get_or xs (position_or_len (same x) xs) d) (passes_at_first (same x) xs d (position_below (same x) xs x h itself)))
