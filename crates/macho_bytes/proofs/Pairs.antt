-- Relations that hold of each pair of a list's elements, the first one before the second.
--
-- A pair of a list is its first element with a later one, or a pair of the rest. So a relation holds of the pairs of two lists joined where
-- it holds in each and between them, and of a mapped list where its image holds of the list.
use Rattle.std.proofs.Common.{zero, suc, List, ◌∷◌, AllPairs, All, arith, [], ◌++◌, ◌≡◌, refl, subst, inl, inr, map, get_or, sym}
use Rattle.std.specs.Prelude.{AllPairs, All, Contains}
use Rattle.std.proofs.lemmas.List.Elements.{Contains-append_left, Contains-append_right, All-contains}
use Rattle.std.proofs.lemmas.List.Kept.{AllPairs-cons}
use Rattle.std.proofs.lemmas.List.{get_or-map, length-map}
use Rattle.macho_bytes.proofs.Members.{contains_cases, contains_all}

-- all pairs of a list with one element in front
pub pairs_cons : {X : Type 0} (R : X → X → Type 0) (x : X) (xs : List X) → All (R x) xs → AllPairs R xs → AllPairs R (x ∷ xs)
pairs_cons R x xs each rest zero zero d before within = absurd (omega arith)
pairs_cons R x xs each rest zero (suc j) d before within = each j d (omega arith)
pairs_cons R x xs each rest (suc i) zero d before within = absurd (omega arith)
pairs_cons R x xs each rest (suc i) (suc j) d before within = rest i j d (omega arith) (omega arith)

pub pairs_tail : {X : Type 0} (R : X → X → Type 0) (x : X) (xs : List X) → AllPairs R (x ∷ xs) → AllPairs R xs
pairs_tail R x xs h i j d below within = h (suc i) (suc j) d (omega arith) (omega arith)

pub pairs_head : {X : Type 0} (R : X → X → Type 0) (x : X) (xs : List X) → AllPairs R (x ∷ xs) → All (R x) xs
pairs_head R x xs h k d within = h 0 (suc k) d (omega arith) (omega arith)

pub pairs_back : {X : Type 0} (R : X → X → Type 0) (xs ys : List X) → AllPairs R (xs ++ ys) → AllPairs R ys
pairs_back R [] ys h = h
pairs_back R (x ∷ xs) ys h = pairs_back R xs ys (pairs_tail R x (xs ++ ys) h)

pub pairs_map : {X Y : Type 0} (R : Y → Y → Type 0) (f : X → Y) (xs : List X) → AllPairs (λ a b. R (f a) (f b)) xs → AllPairs R (map f xs)
pairs_map R f [] h i j d before within = absurd (omega (arith, within))
pairs_map {X} {Y} R f (x ∷ xs) h i j d before within =
    let long = length-map (x ∷ xs) f in
    subst (λ a. R a (get_or (map f (x ∷ xs)) j d)) (sym (get_or-map f (x ∷ xs) i x d (omega (arith, before, within, long))))
    (subst (R (f (get_or (x ∷ xs) i x))) (sym (get_or-map f (x ∷ xs) j x d (omega (arith, within, long))))
    (h i j x before (omega (arith, within, long))))

pub pairs_unmap : {X Y : Type 0} (R : Y → Y → Type 0) (f : X → Y) (xs : List X) → AllPairs R (map f xs) → AllPairs (λ a b. R (f a) (f b)) xs
pairs_unmap R f xs h i j d before within =
    let long = length-map xs f in
    subst (λ a. R a (f (get_or xs j d))) (get_or-map f xs i d (f d) (omega (arith, before, within)))
    (subst (R (get_or (map f xs) i (f d))) (get_or-map f xs j d (f d) within) (h i j (f d) before (omega (arith, within, long))))

-- a first element, and pairs of the rest
pub pairs_nil : {X : Type 0} (R : X → X → Type 0) → AllPairs R []
pairs_nil R i j d below within = absurd (omega arith)

-- one after the other, in their order
pub pairs_before : {X : Type 0} (R : X → X → Type 0) (x : X) (xs : List X) (y : X) → AllPairs R (x ∷ xs) → Contains xs y → R x y
pairs_before R x xs y h c = All-contains (R x) xs y (pairs_head R x xs h) c

-- and taken apart
pub pairs_front : {X : Type 0} (R : X → X → Type 0) (xs ys : List X) → AllPairs R (xs ++ ys) → AllPairs R xs
pairs_front R [] ys h = pairs_nil R
pairs_front R (x ∷ xs) ys h =
    AllPairs-cons R x xs (contains_all (R x) xs (λ y c. pairs_before R x (xs ++ ys) y h (Contains-append_left xs ys y c)))
    (pairs_front R xs ys (pairs_tail R x (xs ++ ys) h))

pub pairs_cross : {X : Type 0} (R : X → X → Type 0) (xs ys : List X) (x y : X) → AllPairs R (xs ++ ys) → Contains xs x → Contains ys y
    → R x y
pairs_cross R [] ys x y h c d = absurd (let z : x ≡ x = refl in omega arith)
pairs_cross {X} R (z ∷ xs) ys x y h c d =
    elim (contains_cases z xs x c) [
      | inl is ↦ subst (λ (w : X). R w y) is (pairs_before R z (xs ++ ys) y h (Contains-append_right xs ys y d))
      | inr rest ↦ pairs_cross R xs ys x y (pairs_tail R z (xs ++ ys) h) rest d
    ]
