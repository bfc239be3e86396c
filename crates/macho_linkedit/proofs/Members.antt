-- What is in a list that is mapped, filtered or joined from parts, and pairs of its elements.
--
-- An element of a list is its first or one of the others. So what is in a mapped list is the image of an element; what is in
-- a filtered list is an element that passes; what is in lists joined is in the list of one item. A relation holds of each
-- pair of two lists joined where it holds of each pair of both, and between the two; so it holds of each pair of many lists
-- joined where it holds in each and between the lists of any two items.
use Rattle.std.proofs.Common.{◌≡◌, zero, suc, ◌<◌, Bool, true, false, cond, List, [], ◌∷◌, map, length, refl, sym, ap, subst, ◌∙◌, arith, inl, inr, ◌⊎◌, Option, Some, None, not, Decides}
use Rattle.std.specs.Prelude.{All, Contains, filter}
use Rattle.std.specs.List.{flat_map, filter_map, cons_option, position_or_len}
use Rattle.macho_model.specs.Needs.{distinct}
use Rattle.macho_bytes.proofs.Members.{contains_later, contains_cases, nil_contains, contains_filter}

-- with repeats taken out
pub in_distinct : {X : Type 0} (same : X → X → Bool) → ((a b : X) → Decides (same a b) (a ≡ b)) → (xs : List X) (x : X) → Contains xs x
    → Contains (distinct same xs) x
in_distinct same d [] x c = absurd (nil_contains x c)
in_distinct {X} same d (y ∷ xs) x c =
    elim (contains_cases y xs x c) [
      | inl is ↦ (0, omega arith, is)
      | inr rest ↦ by (same y x) refl (in_distinct same d xs x rest)
    ]
  where
    by : (b : Bool) → same y x ≡ b → Contains (distinct same xs) x → Contains (distinct same (y ∷ xs)) x
    by true is there = (0, omega arith, (d y x).0 is)
    by false is there =
        contains_later y (filter (λ z. not (same y z)) (distinct same xs)) x
        (contains_filter (λ z. not (same y z)) (distinct same xs) x there (ap not is))
