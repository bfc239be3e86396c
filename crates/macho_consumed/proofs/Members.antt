-- What is in a list that is filtered, mapped, joined from parts or a range.
--
-- What a list has by a place, its head has at 0, and its tail one place contains_behind. So each fact goes down the list: an element of
-- the result comes from an element of the list, and each element of the list comes into the result.
use Rattle.std.proofs.Common.{◌≡◌, ℕ, zero, suc, ◌<◌, Bool, true, false, List, [], ◌∷◌, ◌++◌, map, filter, refl, sym, ◌∙◌, subst, arith}
use Rattle.std.specs.List.{flat_map, range_with_len, All, Contains}
use Rattle.std.proofs.lemmas.List.Elements.{All-append, All-nil, All-map, All-contains, All-filter, filter_passes, All-contains_itself}
use Rattle.macho_bytes.proofs.Members.{contains_first, contains_all, contains_behind}

-- filters
pub in_filter : {X : Type 0} (p : X → Bool) (xs : List X) (x : X) → Contains (filter p xs) x → (p x ≡ true) × Contains xs x
in_filter {X = X} p xs x c = (
  All-contains (λ y. p y ≡ true) (filter p xs) x (filter_passes p xs) c,
  All-contains (Contains xs) (filter p xs) x (All-filter p (Contains xs) xs (All-contains_itself xs)) c,
)

kept : {X : Type 0} (p : X → Bool) (x y : X) (xs : List X) (t : Bool) → p x ≡ t → Contains (filter p xs) y → Contains (filter p (x ∷ xs)) y
kept p x y xs true e c = rw e (contains_behind x y (filter p xs) c)
kept p x y xs false e c = rw e c

-- parts joined
pub all_joined : {X Y : Type 0} (P : Y → Type 0) (f : X → List Y) (xs : List X) → ((x : X) → Contains xs x → All P (f x))
    → All P (flat_map f xs)
all_joined P f [] each = All-nil P
all_joined P f (x ∷ xs) each =
    All-append P (f x) (flat_map f xs) (each x (contains_first x xs)) (all_joined P f xs (λ y c. each y (contains_behind x y xs c)))

-- an element of a map comes from one of the list
pub record IsFrom {X Y : Type 0} (f : X → Y) (xs : List X) (y : Y) : Type 0 where
  pub at : X
  pub there : Contains xs at
  pub is : y ≡ f at

pub in_map : {X Y : Type 0} (f : X → Y) (xs : List X) (y : Y) → Contains (map f xs) y → IsFrom f xs y
in_map f xs y c =
    All-contains (IsFrom f xs) (map f xs) y (All-map (IsFrom f xs) f xs (contains_all (λ x. IsFrom f xs (f x)) xs
    (λ x d. record { at = x; there = d; is = refl }))) c
