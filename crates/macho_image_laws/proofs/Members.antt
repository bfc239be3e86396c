-- Elements of lists, and of lists made from lists.
--
-- An element of a list stands at its front or among the rest; by that, what is in a map, a filter or lists joined end to end
-- comes from an element, and each element that passes goes into it. Two elements of a list whose pairs are related are one
-- or related, in one order or the other.
use Rattle.std.proofs.Common.{◌≡◌, zero, suc, ◌+◌, ◌⊎◌, Bool, true, false, cond, List, [], ◌∷◌, ◌++◌, length, get_or, map, filter, refl, sym, ap, subst, ◌∙◌, arith, inl, inr, Option, Some, None}
use Rattle.std.specs.Prelude.{Contains, AllPairs}
use Rattle.std.specs.List.{flat_map, filter_map, cons_option}
use Rattle.std.proofs.lemmas.Bool.{cases_lt}
use Rattle.std.proofs.lemmas.List.{get_or_default}

-- two elements are one, or related
pub one_or_pair : {X : Type 0} (R : X → X → Type 0) (xs : List X) (x y : X) → AllPairs R xs → Contains xs x → Contains xs y
    → (x ≡ y) ⊎ (R x y ⊎ R y x)
one_or_pair R xs x y h (i, lt_i, at_i) (j, lt_j, at_j) =
    elim (cases_lt i j) [
      | inl before ↦
          let pair = h i j x before lt_j in
          inr (inl (subst (λ v. R x v) (get_or_default xs j x y lt_j ∙ at_j) (subst (λ u. R u (get_or xs j x)) at_i pair)))
      | inr le ↦ elim (cases_lt j i) [
        | inl behind ↦
            let pair = h j i x behind lt_i in
            inr (inr (subst (λ v. R y v) at_i (subst (λ u. R u (get_or xs i x)) (get_or_default xs j x y lt_j ∙ at_j) pair)))
        | inr ge ↦
            let same : i ≡ j = omega (arith, le, ge) in
            inl (sym at_i ∙ get_or_default xs i x y lt_i ∙ ap (λ k. get_or xs k y) same ∙ at_j)
      ]
    ]
