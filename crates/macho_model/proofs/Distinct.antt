-- A list with repeats taken out has what the list has.
use Rattle.std.proofs.Common.{◌≡◌, List, [], ◌∷◌, subst, Contains, Bool, ◌⊎◌, inl, inr, ℕ, true, ◌||◌, not, false, filter, refl, sym, ap, ◌∙◌}
use Rattle.std.specs.Prelude.{filter, not, Contains}
use Rattle.macho_bytes.proofs.Members.{contains_first, contains_later, contains_cases, filter_contains}
use Rattle.macho_model.specs.Needs.{distinct, imports_of, is_imported}
use Rattle.std.specs.List.{filter, filter_map, list_any}
use Rattle.std.specs.Str.{bytes_eq}
use Rattle.macho_model.specs.Links.{Link}
use Rattle.macho_model.specs.Uses.{name_used, uses_of}
use Rattle.macho_model.proofs.Uses.{imports_are}
use Rattle.std.proofs.lemmas.Bool.{not-false}
use Rattle.macho_bytes.proofs.Maps.{any-filter}

-- what is left of a list without repeats is of the list
pub distinct_contains : {X : Type 0} (same : X → X → Bool) (xs : List X) (x : X) → Contains (distinct same xs) x → Contains xs x
distinct_contains same [] x has = has
distinct_contains {X = X} same (y ∷ ys) x has = by (distinct_contains same ys x)
    (contains_cases y (filter (λ z. not (same y z)) (distinct same ys)) x has)
  where
    by : (Contains (distinct same ys) x → Contains ys x) → (y ≡ x) ⊎ Contains (filter (λ z. not (same y z)) (distinct same ys)) x
        → Contains (y ∷ ys) x
    by rest (inl here) = subst (λ (z : X). Contains (y ∷ ys) z) here (contains_first y ys)
    by rest (inr later) = contains_later y ys x (rest (filter_contains (λ z. not (same y z)) (distinct same ys) x later).0)

-- an imported name has a library's definition
pub imported : (l : Link) (name : List ℕ) → Contains (imports_of l) name → is_imported l name ≡ true
imported l name c =
    (filter_contains (is_imported l) (filter_map (name_used l) (uses_of l)) name
    (distinct_contains bytes_eq (filter (is_imported l) (filter_map (name_used l) (uses_of l))) name
    (subst (λ (ns : List (List ℕ)). Contains ns name) (imports_are l) c))).1

-- whether some element passes doesn't ask how often it stands there
pub any_distinct : {X : Type 0} (same : X → X → Bool) (p : X → Bool) → ((a b : X) → same a b ≡ true → p a ≡ p b) → (xs : List X)
    → list_any p (distinct same xs) ≡ list_any p xs
any_distinct same p e [] = refl
any_distinct {X} same p e (x ∷ xs) = by (any_distinct same p e xs) (p x) refl
  where
    by : list_any p (distinct same xs) ≡ list_any p xs → (b : Bool) → p x ≡ b →
        (p x || list_any p (filter (λ y. not (same x y)) (distinct same xs))) ≡ (p x || list_any p xs)
    by h true is = ap (λ (b : Bool). b || list_any p (filter (λ y. not (same x y)) (distinct same xs))) is ∙ sym
        (ap (λ (b : Bool). b || list_any p xs) is)
    by h false is = ap (λ (b : Bool). p x || b) (any-filter (λ y. not (same x y)) p (distinct same xs)
        (λ y out. sym (e x y (not-false (same x y) out)) ∙ is) ∙ h)
