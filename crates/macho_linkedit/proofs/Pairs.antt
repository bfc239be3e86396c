-- Relations that hold of each pair of a list's elements.
--
-- A pair of two lists joined is a pair of one of them, or an element of each. So a relation that holds within two lists and
-- between them holds of their join, and back. Where it is symmetric the order of elements doesn't matter: it holds of any
-- two different places, and a swap of two places takes different places to different places.
use Rattle.std.proofs.Common.{◌≡◌, ℕ, suc, ◌<◌, ◌≤◌, List, [], ◌∷◌, ◌++◌, map, length, get_or, refl, sym, ap, subst, ◌∙◌, arith, inl, inr}
use Rattle.std.specs.Prelude.{All, AllPairs, Contains, IsPermutation}
use Rattle.std.specs.List.{flat_map, swap}
use Rattle.std.proofs.lemmas.List.Elements.{All-append}
use Rattle.std.proofs.lemmas.Bool.{cases_lt}
use Rattle.std.proofs.lemmas.List.Edits.{length-swap}
use Rattle.std.proofs.lemmas.List.Kept.{AllPairs-cons}
use Rattle.std.proofs.lemmas.List.Sorted.{IsPermutation-keeps}
use Rattle.indexmap.proofs.ReorderLemmas.{exchange, exchange-within, exchange-twice, get_or-swap}
use Rattle.macho_bytes.proofs.Pairs.{pairs_tail, pairs_head, pairs_nil, pairs_before}
use Rattle.macho_bytes.proofs.Members.{contains_first, contains_later, contains_all, flat_map_contains}

-- joined
pub pairs_append : {X : Type 0} (R : X → X → Type 0) (xs ys : List X) → AllPairs R xs → AllPairs R ys
    → ((x y : X) → Contains xs x → Contains ys y → R x y) → AllPairs R (xs ++ ys)
pairs_append R [] ys first second cross = second
pairs_append R (x ∷ xs) ys first second cross =
    AllPairs-cons R x (xs ++ ys)
    (All-append (R x) xs ys (pairs_head R x xs first) (contains_all (R x) ys (λ y c. cross x y (contains_first x xs) c)))
    (pairs_append R xs ys (pairs_tail R x xs first) second (λ z y c d. cross z y (contains_later x xs z c) d))

-- a relation that follows of elements of the list
pub pairs_weaker : {X : Type 0} (R Q : X → X → Type 0) (xs : List X) → AllPairs R xs
    → ((x y : X) → Contains xs x → Contains xs y → R x y → Q x y) → AllPairs Q xs
pairs_weaker R Q [] h follows = pairs_nil Q
pairs_weaker R Q (x ∷ xs) h follows =
    AllPairs-cons Q x xs
    (contains_all (Q x) xs (λ y c. follows x y (contains_first x xs) (contains_later x xs y c) (pairs_before R x xs y h c)))
    (pairs_weaker R Q xs (pairs_tail R x xs h) (λ y z c d r. follows y z (contains_later x xs y c) (contains_later x xs z d) r))

-- of many lists joined
pub pairs_flat_map : {X Y : Type 0} (W : X → X → Type 0) (R : Y → Y → Type 0) (f : X → List Y) (xs : List X) → AllPairs W xs
    → ((x : X) → Contains xs x → AllPairs R (f x))
    → ((x z : X) (y w : Y) → Contains xs x → Contains xs z → W x z → Contains (f x) y → Contains (f z) w → R y w) → AllPairs R
    (flat_map f xs)
pairs_flat_map W R f [] h each between = pairs_nil R
pairs_flat_map W R f (x ∷ xs) h each between =
    pairs_append R (f x) (flat_map f xs) (each x (contains_first x xs))
    (pairs_flat_map W R f xs (pairs_tail W x xs h) (λ z c. each z (contains_later x xs z c))
    (λ u v y w c d. between u v y w (contains_later x xs u c) (contains_later x xs v d)))
    (λ y w c d. let z = flat_map_contains f xs w d in
    between x z.0 y w (contains_first x xs) (contains_later x xs z.0 z.1) (pairs_before W x xs z.0 h z.1) c z.2)

-- of a list in another order, where the relation is symmetric
swapped : {X : Type 0} (R : X → X → Type 0) → ((x y : X) → R x y → R y x) → (xs : List X) (a b : ℕ) → a < length xs → b < length xs
    → AllPairs R xs
    → AllPairs R (swap xs a b)
swapped {X} R turn xs a b a_in b_in h i j d below within =
    subst (λ (w : X). R (get_or (swap xs a b) i d) w) (sym (get_or-swap xs a b d a_in b_in j))
    (subst (λ (w : X). R w (get_or xs to_j d)) (sym (get_or-swap xs a b d a_in b_in i)) there)
  where
    to_i : ℕ
    to_i = exchange a b i

    to_j : ℕ
    to_j = exchange a b j

    i_in : exchange a b i < length xs
    i_in = exchange-within a b (length xs) i a_in b_in (omega (arith, length-swap xs a b))

    j_in : exchange a b j < length xs
    j_in = exchange-within a b (length xs) j a_in b_in (omega (arith, length-swap xs a b))

    there : R (get_or xs (exchange a b i) d) (get_or xs (exchange a b j) d)
    there =
        elim (cases_lt (exchange a b i) (exchange a b j)) [
          | inl rise ↦ h (exchange a b i) (exchange a b j) d rise j_in
          | inr fall ↦ turn (get_or xs (exchange a b j) d) (get_or xs (exchange a b i) d)
              (h (exchange a b j) (exchange a b i) d (other fall) i_in)
        ]
      where
        other : exchange a b j ≤ exchange a b i → exchange a b j < exchange a b i
        other fall =
            elim (cases_lt (exchange a b j) (exchange a b i)) [
              | inl less ↦ less
              | inr same ↦
                  let e : exchange a b i ≡ exchange a b j = omega arith in
                  let f : i ≡ j = sym (exchange-twice a b i) ∙ ap (exchange a b) e ∙ exchange-twice a b j in
                  absurd (omega arith)
            ]

pub pairs_permuted : {X : Type 0} (R : X → X → Type 0) → ((x y : X) → R x y → R y x) → (xs ys : List X) → IsPermutation xs ys
    → AllPairs R xs
    → AllPairs R ys
pairs_permuted R turn xs ys same h = IsPermutation-keeps xs (AllPairs R) h (λ l i j i_in j_in p. swapped R turn l i j i_in j_in p) ys same
