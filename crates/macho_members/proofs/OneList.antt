-- Two rising lists with the same elements are one list. If both have a first element, the first of each is in the other; were it not the
-- first there, each would stand before the other, which can't be. So the first elements are one. What is left of each list has no first
-- element in it again, as nothing stands before itself, so that the rests have the same elements too.
-- The members that are linked rise, by archive and then by member, and two lists of them have the same elements.
use Rattle.std.proofs.Common.{◌≡◌, ℕ, inl, inr, zero, suc, List, [], ◌∷◌, Contains, sym, subst, ◌∙◌, refl, arith}
use Rattle.std.specs.List.{AllPairs}
use Rattle.std.proofs.lemmas.Map.Made.{Contains-tail}
use Rattle.macho_members.specs.Needs.{IsBefore}
use Rattle.macho_members.specs.Laws.{NeededAreOne}

module _ {X : Type 0} (R : X → X → Type 0) (one_way : (a b : X) → R a b → R b a → ⊥) where
  -- the first stands before each later one
  first_before : (x : X) (xs : List X) (q : X) → AllPairs R (x ∷ xs) → Contains xs q → R x q
  first_before x xs q pairs there = subst (R x) there.2 (pairs 0 (suc there.0) q (omega arith) (omega (arith, there.1)))

  rest_rises : (x : X) (xs : List X) → AllPairs R (x ∷ xs) → AllPairs R xs
  rest_rises x xs pairs = λ i j d low h. pairs (suc i) (suc j) d (omega arith) (omega arith)

  later : (x : X) (xs : List X) (q : X) → Contains xs q → Contains (x ∷ xs) q
  later x xs q there = (suc there.0, omega (arith, there.1), there.2)

  here : (x : X) (xs : List X) → Contains (x ∷ xs) x
  here x xs = (0, omega arith, refl)

  -- the first elements are one
  same_first : (x y : X) (xs ys : List X) → AllPairs R (x ∷ xs) → AllPairs R (y ∷ ys) → Contains (y ∷ ys) x → Contains (x ∷ xs) y → x ≡ y
  same_first x y xs ys p q (zero, _, e) _ = sym e
  same_first x y xs ys p q (suc _, _, _) (zero, _, e) = e
  same_first x y xs ys p q (suc k, h, e) (suc l, g, f) =
      absurd (one_way x y (first_before x xs y p (l, omega (arith, g), f)) (first_before y ys x q (k, omega (arith, h), e)))

  -- what is in the rest of a list is in the rest of one that begins alike
  in_rest : (x y : X) (xs ys : List X) → x ≡ y → AllPairs R (x ∷ xs) → ((q : X) → Contains (x ∷ xs) q → Contains (y ∷ ys) q)
      → (q : X) → Contains xs q → Contains ys q
  in_rest x y xs ys same pairs into q there =
      let before : R x q = first_before x xs q pairs there in
      Contains-tail y ys q (λ e. one_way q q (subst (λ a. R a q) (same ∙ e) before) (subst (λ a. R a q) (same ∙ e) before))
      (into q (later x xs q there))

  pub one_list : (xs ys : List X) → AllPairs R xs → AllPairs R ys → ((q : X) → Contains xs q → Contains ys q)
      → ((q : X) → Contains ys q → Contains xs q) → xs ≡ ys
  one_list [] [] p q there back = refl
  one_list [] (y ∷ ys) p q there back = absurd (omega (arith, (back y (here y ys)).1))
  one_list (x ∷ xs) [] p q there back = absurd (omega (arith, (there x (here x xs)).1))
  one_list (x ∷ xs) (y ∷ ys) p q there back =
      let same : x ≡ y = same_first x y xs ys p q (there x (here x xs)) (back y (here y ys)) in
      let rest : xs ≡ ys = one_list xs ys (rest_rises x xs p) (rest_rises y ys q) (in_rest x y xs ys same p there)
      (in_rest y x ys xs (sym same) q back) in
      rw (same, rest) refl

-- of two members one at most stands before the other
before_one_way : (a b : ℕ × ℕ) → IsBefore a b → IsBefore b a → ⊥
before_one_way a b (inl h) (inl g) = omega (arith, h, g)
before_one_way a b (inl h) (inr g) = omega (arith, h, g.0)
before_one_way a b (inr h) (inl g) = omega (arith, h.0, g)
before_one_way a b (inr h) (inr g) = omega (arith, h.1, g.1)

-- there is one list of the members that are linked
pub one_answer : NeededAreOne
one_answer inputs xs ys a b =
    one_list IsBefore before_one_way xs ys a.rising b.rising
    (λ q there. b.all q.0 q.1 (a.needed q.0 q.1 there))
    (λ q there. a.all q.0 q.1 (b.needed q.0 q.1 there))
