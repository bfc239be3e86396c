-- Lists: all pairs of a list by its first element, what a filter keeps, and what is true of the elements that it keeps.
--
-- All pairs of x and a list are those of x with each element, and those of the list. A filter of a list and one element
-- more is the filter of the list, and that element where it passes.
use Rattle.std.proofs.Common.{◌≡◌, zero, suc, Bool, true, false, cond, List, [], ◌∷◌, ◌++◌, filter, AllPairs, All, refl, sym, ap, ◌∙◌, arith}
use Rattle.std.specs.List.{AllByRecursion}
use Rattle.std.proofs.lemmas.Bool.{false≢true}
use Rattle.std.proofs.lemmas.List.{append-nil}
use Rattle.std.proofs.lemmas.List.Elements.{filter-append}

-- one element more, which passes
pub filter_push_yes : {X : Type 0} (p : X → Bool) (xs : List X) (x : X) → p x ≡ true → filter p (xs ++ x ∷ []) ≡ filter p xs ++ x ∷ []
filter_push_yes {X} p xs x passes = filter-append p xs (x ∷ []) ∙ ap (λ (b : Bool). filter p xs ++ cond b (x ∷ []) []) passes

-- one that does not
pub filter_push_no : {X : Type 0} (p : X → Bool) (xs : List X) (x : X) → p x ≡ false → filter p (xs ++ x ∷ []) ≡ filter p xs
filter_push_no {X} p xs x fails =
    filter-append p xs (x ∷ []) ∙ ap (λ (b : Bool). filter p xs ++ cond b (x ∷ []) []) fails ∙ append-nil (filter p xs)

-- what holds of each element that a filter keeps, of the elements that pass
pub unfiltered : {X : Type 0} (P : X → Type 0) (p : X → Bool) (xs : List X) → AllByRecursion P (filter p xs) → AllByRecursion
    (λ x. p x ≡ true → P x) xs
unfiltered P p [] h = tt
unfiltered P p (x ∷ xs) h = by (unfiltered P p xs) (p x) refl h
  where
    by : (AllByRecursion P (filter p xs) → AllByRecursion (λ y. p y ≡ true → P y) xs) → (b : Bool) → p x ≡ b
        → AllByRecursion P (cond b (x ∷ filter p xs) (filter p xs)) → (p x ≡ true → P x) × AllByRecursion (λ y. p y ≡ true → P y) xs
    by rest true is k = (λ _. k.0, rest k.1)
    by rest false is k = (λ passes. absurd (false≢true (sym is ∙ passes)), rest k)
