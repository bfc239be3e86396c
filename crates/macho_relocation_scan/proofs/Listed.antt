-- Elements of lists that are mapped and filtered, and the numbers below a bound.
use Rattle.std.proofs.Common.{◌≡◌, ℕ, ◌<◌, ◌⊎◌, inl, inr, Bool, true, false, cond, List, [], ◌∷◌, map, filter, Contains, refl, sym, ap, ◌∙◌, subst, arith}
use Rattle.std.specs.List.{range_with_len}
use Rattle.macho_bytes.proofs.Members.{contains_first, contains_later, contains_cases}

pub in_filter : {X : Type 0} (p : X → Bool) (xs : List X) (x : X) → p x ≡ true → Contains xs x → Contains (filter p xs) x
in_filter p [] x t h = h
in_filter {X} p (y ∷ ys) x t h = by (in_filter p ys x t) (p y) refl (contains_cases y ys x h)
  where
    by : (Contains ys x → Contains (filter p ys) x) → (b : Bool) → p y ≡ b → (y ≡ x) ⊎ Contains ys x
        → Contains (cond b (y ∷ filter p ys) (filter p ys)) x
    by more true e (inl same) = subst (Contains (y ∷ filter p ys)) same (contains_first y (filter p ys))
    by more true e (inr g) = contains_later y (filter p ys) x (more g)
    by more false e (inl same) = let u : false ≡ true = sym e ∙ ap p same ∙ t in cc
    by more false e (inr g) = more g
