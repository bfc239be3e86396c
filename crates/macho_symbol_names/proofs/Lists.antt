-- Lists: one more index of a range, a filter of one element, equal maps, and slices of a list that has grown.
use Rattle.std.proofs.Common.{◌≡◌, ℕ, ◌+◌, ◌-◌, ◌<◌, ◌≤◌, Bool, true, false, List, [], ◌∷◌, ◌++◌, length, map, get_or, set, slice_range, drop, refl, ap, sym, ◌∙◌, arith, suc, zero, inl, inr, ◌⊎◌, length-drop}
use Rattle.std.proofs.lemmas.List.{drop-append-le, take-append-le}
use Rattle.std.proofs.Math.Seq.{drop-append_seam, take-length}
use Rattle.std.proofs.lemmas.Bool.{cases_lt}
use Rattle.std.specs.List.{range_with_len, filter}

-- a filter of one element
pub filter_one : {X : Type 0} (test : X → Bool) (x : X) → test x ≡ true → filter test (x ∷ []) ≡ x ∷ []
filter_one test x passes = rw passes refl

pub filter_none : {X : Type 0} (test : X → Bool) (x : X) → test x ≡ false → filter test (x ∷ []) ≡ []
filter_none test x fails = rw fails refl

-- two functions that agree on each element of a list
pub map_same : {X Y : Type 0} (f g : X → Y) (xs : List X) → ((k : ℕ) (d : X) → k < length xs → f (get_or xs k d) ≡ g (get_or xs k d))
    → map f xs ≡ map g xs
map_same f g [] agree = refl
map_same f g (x ∷ xs) agree = rw (agree 0 x (omega arith), map_same f g xs (λ k d h. agree (suc k) d (omega (arith, h)))) refl

-- a slice of the front of a list that has grown
pub slice_front : (xs ys : List ℕ) (from to : ℕ) → to ≤ length xs → slice_range (xs ++ ys) from to ≡ slice_range xs from to
slice_front xs ys from to within = by_order (cases_lt to from)
  where
    by_order : (to < from) ⊎ (from ≤ to) → slice_range (xs ++ ys) from to ≡ slice_range xs from to
    by_order (inr before) =
        let short : to - from ≤ length (drop from xs) = rw (length-drop from xs) (omega arith) in
        rw (drop-append-le from xs ys (omega arith), take-append-le (to - from) (drop from xs) ys short) refl
    by_order (inl past) = let none : to - from ≡ 0 = omega arith in rw none refl

-- a slice of what was added
pub slice_behind : (xs ys : List ℕ) → slice_range (xs ++ ys) (length xs) (length xs + length ys) ≡ ys
slice_behind xs ys =
    let all : length xs + length ys - length xs ≡ length ys = omega arith in rw (all, drop-append_seam xs ys, take-length ys) refl

-- an element is put in place of one that a function takes to the same
pub map_set_same : {X Y : Type 0} (f : X → Y) (xs : List X) (i : ℕ) (y d : X) → f y ≡ f (get_or xs i d) → map f (set xs i y) ≡ map f xs
map_set_same f [] i y d same = refl
map_set_same f (x ∷ xs) zero y d same = rw same refl
map_set_same f (x ∷ xs) (suc i) y d same = rw (map_set_same f xs i y d same) refl
