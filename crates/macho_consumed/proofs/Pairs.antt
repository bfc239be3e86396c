-- Pairs of a list, by its head and its tail: what holds of each element and each contains_behind one goes through joins, filters and maps.
use Rattle.std.proofs.Common.{ℕ, zero, suc, ◌+◌, ◌<◌, Bool, true, false, cond, List, [], ◌∷◌, ◌++◌, length, map, filter, get_or, arith}
use Rattle.std.specs.List.{range_with_len, flat_map, All, Contains}
use Rattle.std.proofs.lemmas.List.Elements.{All-nil, All-cons, All-append, All-contains, All-map, All-filter, All-get_or}
use Rattle.macho_consumed.proofs.Members.{all_joined}
use Rattle.macho_bytes.proofs.Members.{contains_first, contains_all, contains_behind}

abbrev pub Pairs : {X : Type 0} → (X → X → Type 0) → List X → Type 0
Pairs R [] = Unit {0}
Pairs R (x ∷ xs) = All (R x) xs × Pairs R xs

pub pairs_append : {X : Type 0} (R : X → X → Type 0) (xs ys : List X) → Pairs R xs → Pairs R ys → ((x : X) → Contains xs x
    → All (R x) ys) → Pairs R (xs ++ ys)
pairs_append R [] ys p q cross = q
pairs_append R (x ∷ xs) ys p q cross =
    (All-append (R x) xs ys p.0 (cross x (contains_first x xs)), pairs_append R xs ys p.1 q (λ y c. cross y (contains_behind x y xs c)))

pub pairs_joined : {X Y : Type 0} (S : X → X → Type 0) (R : Y → Y → Type 0) (f : X → List Y) (xs : List X) → Pairs S xs → ((x : X)
    → Contains xs x → Pairs R (f x))
    → ((x y : X) (a b : Y) → S x y → Contains (f x) a → Contains (f y) b → R a b) → Pairs R (flat_map f xs)
pairs_joined S R f [] p each cross = tt
pairs_joined S R f (x ∷ xs) p each cross =
    pairs_append R (f x) (flat_map f xs) (each x (contains_first x xs))
    (pairs_joined S R f xs p.1 (λ y c. each y (contains_behind x y xs c)) cross)
    (λ a c. all_joined (R a) f xs (λ y d. contains_all (R a) (f y) (λ b e. cross x y a b (All-contains (S x) xs y p.0 d) c e)))

above : (a m n : ℕ) → a < m → All (λ y. a < y) (range_with_len m n)
above a m zero lt = All-nil (λ y. a < y)
above a m (suc n) lt = All-cons (λ y. a < y) m (range_with_len (m + 1) n) lt (above a (m + 1) n (omega arith))

pub pairs_range : (m n : ℕ) → Pairs (λ a b. a < b) (range_with_len m n)
pairs_range m zero = tt
pairs_range m (suc n) = (above m (m + 1) n (omega arith), pairs_range (m + 1) n)

pub pairs_filter : {X : Type 0} (R : X → X → Type 0) (p : X → Bool) (xs : List X) → Pairs R xs → Pairs R (filter p xs)
pairs_filter R p [] q = tt
pairs_filter {X = X} R p (x ∷ xs) q = by (p x) (pairs_filter R p xs q.1)
  where
    by : (t : Bool) → Pairs R (filter p xs) → Pairs R (cond t (x ∷ filter p xs) (filter p xs))
    by true ih = (All-filter p (R x) xs q.0, ih)
    by false ih = ih

pub pairs_map : {X Y : Type 0} (S : X → X → Type 0) (R : Y → Y → Type 0) (f : X → Y) (xs : List X) → ((x y : X) → S x y
    → R (f x) (f y)) → Pairs S xs → Pairs R (map f xs)
pairs_map S R f [] same p = tt
pairs_map S R f (x ∷ xs) same p = (
  All-map (R (f x)) f xs (contains_all (λ y. R (f x) (f y)) xs (λ y c. same x y (All-contains
      (S x) xs y p.0 c))),
  pairs_map S R f xs same p.1,
)

pub at_pairs : {X : Type 0} (R : X → X → Type 0) (xs : List X) (i j : ℕ) (d e : X) → Pairs R xs → i < j → j < length xs
    → R (get_or xs i d) (get_or xs j e)
at_pairs R [] i j d e p lt below = absurd (omega arith)
at_pairs R (x ∷ xs) zero zero d e p lt below = absurd (omega arith)
at_pairs R (x ∷ xs) zero (suc j) d e p lt below = All-get_or (R x) xs j e (omega arith) p.0
at_pairs R (x ∷ xs) (suc i) zero d e p lt below = absurd (omega arith)
at_pairs R (x ∷ xs) (suc i) (suc j) d e p lt below = at_pairs R xs i j d e p.1 (omega arith) (omega arith)
