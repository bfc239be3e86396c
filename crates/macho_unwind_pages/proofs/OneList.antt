-- When two lists are one, and when a list is no longer than another.
--
-- Two lists whose numbers rise and that have the same elements begin alike: each one's first is in the other, so if they
-- differed, each would have the lesser number. Without their first elements they have the same elements still. Two lists that
-- are the same when joined with others are cut at one place, or the longer one goes on with what follows the shorter. A list
-- of distinct elements of another list is no longer than that.
use Rattle.std.proofs.Common.{◌≡◌, ◌≢◌, ℕ, zero, suc, ◌<◌, ◌≤◌, List, [], ◌∷◌, ◌++◌, length, Contains, refl, sym, ap, subst, ◌∙◌, arith, inl, inr, ◌⊎◌}
use Rattle.std.specs.List.{AllPairs}
use Rattle.macho_bytes.proofs.Members.{contains_later, contains_cases}

-- the first of a rising list is below the contains_later ones
first_is_least : {X : Type 0} (f : X → ℕ) (y : X) (ys : List X) (x : X) → AllPairs (λ v w. f v < f w) (y ∷ ys) → Contains ys x → f y < f x
first_is_least f y ys x rising (k, within, is) = subst (λ z. f y < f z) is (rising 0 (suc k) x (omega arith) (omega arith))

-- rising lists with the same elements are one list
pub rising_once : {X : Type 0} (f : X → ℕ) (xs ys : List X) → AllPairs (λ v w. f v < f w) xs → AllPairs (λ v w. f v < f w) ys
    → ((x : X) → Contains xs x → Contains ys x) → ((x : X) → Contains ys x → Contains xs x) → xs ≡ ys
rising_once f [] [] up upper to from = refl
rising_once f [] (y ∷ ys) up upper to from = let c = from y (0, omega arith, refl) in absurd (omega (arith, c.1))
rising_once f (x ∷ xs) [] up upper to from = let c = to x (0, omega arith, refl) in absurd (omega (arith, c.1))
rising_once {X} f (x ∷ xs) (y ∷ ys) up upper to from =
    ap (λ l. x ∷ l) (rising_once f xs ys (λ i j d low within. up (suc i) (suc j) d (omega arith) (omega arith))
    (λ i j d low within. upper (suc i) (suc j) d (omega arith) (omega arith)) inner outer)
    ∙ ap (λ z. z ∷ ys) first
  where
    first : x ≡ y
    first = elim (contains_cases y ys x (to x (0, omega arith, refl))) [
      | inl same ↦ sym same
      | inr behind ↦ elim (contains_cases x xs y (from y (0, omega arith, refl))) [
        | inl same ↦ same
        | inr other ↦ absurd (omega (arith, first_is_least f y ys x upper behind, first_is_least f x xs y up other))
      ]
    ]

    inner : (z : X) → Contains xs z → Contains ys z
    inner z c = elim (contains_cases y ys z (to z (contains_later x xs z c))) [
      | inl same ↦ absurd (omega (arith, first_is_least f x xs z up c, ap f (first ∙ same)))
      | inr there ↦ there
    ]

    outer : (z : X) → Contains ys z → Contains xs z
    outer z c = elim (contains_cases x xs z (from z (contains_later y ys z c))) [
      | inl same ↦ absurd (omega (arith, first_is_least f y ys z upper c, ap f (sym first ∙ same)))
      | inr there ↦ there
    ]

-- the longer one of two lists goes on with what follows the shorter
pub goes_on : {X : Type 0} (xs ys zs ws : List X) → xs ++ ys ≡ zs ++ ws → length xs ≤ length zs
    → (mid : List X) × (zs ≡ xs ++ mid) × (ys ≡ mid ++ ws)
goes_on [] ys zs ws same short = (zs, refl, same)
goes_on (x ∷ xs) ys [] ws same short = absurd (omega arith)
goes_on (x ∷ xs) ys (z ∷ zs) ws same short =
    let front : x ≡ z = cc in
    let rest = goes_on xs ys zs ws (cc) (omega arith) in
    (rest.0, ap (λ v. v ∷ zs) (sym front) ∙ ap (λ l. x ∷ l) rest.1, rest.2)

-- no number stands twice
abbrev pub AreDistinct : List ℕ → Type 0
AreDistinct xs = AllPairs (λ a b. a ≢ b) xs
