-- Rising lists with the same elements are equal.
--
-- The order of texts is total, so none stands before itself, nor two each before the other. The first of each list is the
-- least of both; what
-- is left rises too and has the same elements.
use Rattle.std.proofs.Common.{◌≡◌, ℕ, suc, List, [], ◌∷◌, refl, sym, ap, ◌∙◌, subst, arith, inl, inr}
use Rattle.std.specs.Prelude.{AllPairs, Contains}
use Rattle.std.specs.Ordering.{nat_cmp, ordering_reverse}
use Rattle.std.specs.Cmp.Lexicographic.{slice_cmp}
use Rattle.std.specs.declared.cmp.Ordering.TheVariants.{Less, Greater}
use Rattle.std.proofs.lemmas.Cmp.{nat_list_cmp_total}
use Rattle.macho_bytes.proofs.Members.{contains_first, contains_later, contains_cases, nil_contains}

abbrev pub Before : List ℕ → List ℕ → Type 0
Before a b = slice_cmp nat_cmp a b ≡ Less

not_both : (x y : List ℕ) → Before x y → Before y x → ⊥
not_both x y a b =
    let e : Less ≡ Greater = sym a ∙ nat_list_cmp_total.antisymm x y ∙ ap ordering_reverse b in
    cc

head_before : (x : List ℕ) (xs : List (List ℕ)) (z : List ℕ) → AllPairs Before (x ∷ xs) → Contains xs z → Before x z
head_before x xs z pairs (k, within, is) = subst (λ (w : List ℕ). Before x w) is (pairs 0 (suc k) z (omega arith) (omega (arith, within)))

tail_pairs : (x : List ℕ) (xs : List (List ℕ)) → AllPairs Before (x ∷ xs) → AllPairs Before xs
tail_pairs x xs pairs i j d low within = pairs (suc i) (suc j) d (omega (arith, low)) (omega (arith, within))

first_same : (x y : List ℕ) (xs ys : List (List ℕ)) → AllPairs Before (x ∷ xs) → AllPairs Before (y ∷ ys)
    → Contains (y ∷ ys) x → Contains (x ∷ xs) y → x ≡ y
first_same x y xs ys first second there back = elim (contains_cases y ys x there) [
  | inl e ↦ sym e
  | inr later ↦ elim (contains_cases x xs y back) [
    | inl e ↦ e
    | inr other ↦ absurd (not_both x y (head_before x xs y first other) (head_before y ys x second later))
  ]
]

-- what a list has behind its first one stands behind the first one of the other
stripped : (x y z : List ℕ) (xs ys : List (List ℕ)) → AllPairs Before (x ∷ xs) → x ≡ y → Contains xs z → Contains (y ∷ ys) z → Contains ys z
stripped x y z xs ys first same there found = elim (contains_cases y ys z found) [
  | inl e ↦
      let before = head_before x xs z first there in
      let itself : Before x x = subst (λ (w : List ℕ). Before x w) (sym (same ∙ e)) before in
      absurd (not_both x x itself itself)
  | inr later ↦ later
]

pub rising_same : (xs ys : List (List ℕ)) → AllPairs Before xs → AllPairs Before ys → ((z : List ℕ) → Contains xs z → Contains ys z)
    → ((z : List ℕ) → Contains ys z → Contains xs z) → xs ≡ ys
rising_same [] [] first second to back = refl
rising_same [] (y ∷ ys) first second to back = absurd (nil_contains y (back y (contains_first y ys)))
rising_same (x ∷ xs) [] first second to back = absurd (nil_contains x (to x (contains_first x xs)))
rising_same (x ∷ xs) (y ∷ ys) first second to back =
    let same = first_same x y xs ys first second (to x (contains_first x xs)) (back y (contains_first y ys)) in
    let rest = rising_same xs ys (tail_pairs x xs first) (tail_pairs y ys second)
    (λ z there. stripped x y z xs ys first same there (to z (contains_later x xs z there)))
    (λ z there. stripped y x z ys xs second (sym same) there (back z (contains_later y ys z there))) in
    ap (λ (w : List ℕ). w ∷ xs) same ∙ ap (λ (ws : List (List ℕ)). y ∷ ws) rest
