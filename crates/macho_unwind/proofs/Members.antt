-- What is in a list that is joined from parts.
--
-- An element of two lists joined is in the first or in the second. So an element of many lists joined is in the list of one
-- item, and each element of the list of an item is in all of them joined.
use Rattle.std.proofs.Common.{◌≡◌, ℕ, zero, suc, ◌+◌, ◌-◌, ◌<◌, List, [], ◌∷◌, length, get_or, refl, sym, ◌∙◌, arith, inl, inr}
use Rattle.std.specs.List.{flat_map, Contains}
use Rattle.std.proofs.lemmas.Bool.{cases_lt}
use Rattle.std.proofs.lemmas.List.{get_or_append_left, get_or-append_right, get_or-append-add, length-append}

-- An item of a list whose own list has the element.
pub record IsIn {X Y : Type 0} (f : X → List Y) (xs : List X) (d : X) (y : Y) : Type 0 where
  pub item : ℕ
  pub place : ℕ
  pub there : item < length xs
  pub within : place < length (f (get_or xs item d))
  pub is : get_or (f (get_or xs item d)) place y ≡ y

is_in-later : {X Y : Type 0} (f : X → List Y) (x : X) (xs : List X) (d : X) (y : Y) → IsIn f xs d y → IsIn f (x ∷ xs) d y
is_in-later f x xs d y i = record { item = suc i.item; place = i.place; there = omega (arith, i.there); within = i.within; is = i.is }

-- an element of the lists joined is in the list of one of the items
pub found_in : {X Y : Type 0} (f : X → List Y) (xs : List X) (d : X) (y : Y) → Contains (flat_map f xs) y → IsIn f xs d y
found_in f [] d y (k, lt, is) = absurd (omega arith)
found_in f (x ∷ xs) d y (k, lt, is) =
    elim (cases_lt k (length (f x))) [
      | inl here ↦ record {
        item = 0;
        place = k;
        there = omega arith;
        within = here;
        is = sym (get_or_append_left (f x) (flat_map f xs) y k here) ∙ is;
      }
      | inr past ↦ is_in-later f x xs d y (found_in f xs d y (
        k - length (f x),
        omega (arith, length-append (f x) (flat_map f xs)),
        sym (get_or-append_right (f x) (flat_map f xs) (length (f x)) k y refl past) ∙ is,
      ))
    ]

found_at : {X Y : Type 0} (f : X → List Y) (xs : List X) (d : X) (y : Y) (item place : ℕ) → item < length xs
    → place < length (f (get_or xs item d)) → get_or (f (get_or xs item d)) place y ≡ y → Contains (flat_map f xs) y
found_at f [] d y item place there within is = absurd (omega arith)
found_at f (x ∷ xs) d y zero place there within is =
    (place, omega (arith, length-append (f x) (flat_map f xs)), get_or_append_left (f x) (flat_map f xs) y place within ∙ is)
found_at f (x ∷ xs) d y (suc item) place there within is =
    let rest = found_at f xs d y item place (omega arith) within is in (
      length (f x) + rest.0,
      omega (arith, length-append (f x) (flat_map f xs), rest.1),
      get_or-append-add (f x) (flat_map f xs) rest.0 y ∙ rest.2,
    )

-- an element of the list of one item is in all of them joined
pub found_from : {X Y : Type 0} (f : X → List Y) (xs : List X) (d : X) (y : Y) → IsIn f xs d y → Contains (flat_map f xs) y
found_from f xs d y i = found_at f xs d y i.item i.place i.there i.within i.is
