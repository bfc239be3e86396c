-- Loops that add an image of each element of a list to what was there.
--
-- After i elements stands what was there, and the images of the first i. One more image behind is that of the next one; after all elements
-- the images are of the whole list.
use Rattle.std.proofs.Common.{◌≡◌, ℕ, ◌+◌, ◌<◌, ◌≤◌, Bool, true, false, if◌then◌else◌, List, [], ◌∷◌, ◌++◌, length, map, take, get_or, min, refl, sym, ap, ◌∙◌, arith, append_assoc, filter, drop, inl, inr}
use Rattle.std.specs.Prelude.{Contains}
use Rattle.std.specs.List.{flat_map, range_with_len}
use Rattle.std.proofs.lemmas.List.{map_more, take_more, take_all, drop_all, append-nil, flat_map_more, map-append}
use Rattle.std.proofs.lemmas.List.Elements.{filter-append}
use Rattle.std.proofs.lemmas.List.FromFn.{map-range_with_len_more}
use Rattle.macho_bytes.proofs.Members.{nil_contains, contains_cases}
use Rattle.macho_retool.specs.Parts.{least}

-- no element yet, one element more, all elements: of a map
pub map_begins : {X Y : Type 0} (f : X → Y) (xs : List X) (front : List Y) → front ≡ front ++ map f (take 0 xs)
map_begins f xs front = sym (append-nil front)

pub map_goes_on : {X Y : Type 0} (f : X → Y) (xs : List X) (i : ℕ) (x : X) (front so_far now : List Y) → i < length xs
    → so_far ≡ front ++ map f (take i xs) → now ≡ so_far ++ f (get_or xs i x) ∷ [] → now ≡ front ++ map f (take (i + 1) xs)
map_goes_on f xs i x front so_far now lt before is =
    is ∙ ap (λ ys. ys ++ f (get_or xs i x) ∷ []) before ∙ append_assoc front (map f (take i xs)) (f (get_or xs i x) ∷ [])
    ∙ ap (λ ys. front ++ ys) (sym (map_more f xs i x lt))

pub map_ends : {X Y : Type 0} (f : X → Y) (xs : List X) (i : ℕ) (front now : List Y) → length xs ≤ i
    → now ≡ front ++ map f (take i xs) → now ≡ front ++ map f xs
map_ends f xs i front now past is = is ∙ ap (λ ys. front ++ map f ys) (take_all i xs past)

-- the same where each element has a list of images
pub flat_begins : {X Y : Type 0} (f : X → List Y) (xs : List X) (front : List Y) → front ≡ front ++ flat_map f (take 0 xs)
flat_begins f xs front = sym (append-nil front)

pub flat_goes_on : {X Y : Type 0} (f : X → List Y) (xs : List X) (i : ℕ) (x : X) (front so_far now : List Y) → i < length xs
    → so_far ≡ front ++ flat_map f (take i xs) → now ≡ so_far ++ f (get_or xs i x) → now ≡ front ++ flat_map f (take (i + 1) xs)
flat_goes_on f xs i x front so_far now lt before is =
    is ∙ ap (λ ys. ys ++ f (get_or xs i x)) before ∙ flat_map_more f front (take i xs) (get_or xs i x)
    ∙ ap (λ ys. front ++ flat_map f ys) (sym (take_more xs i x lt))

pub flat_ends : {X Y : Type 0} (f : X → List Y) (xs : List X) (i : ℕ) (front now : List Y) → length xs ≤ i
    → now ≡ front ++ flat_map f (take i xs) → now ≡ front ++ flat_map f xs
flat_ends f xs i front now past is = is ∙ ap (λ ys. front ++ flat_map f ys) (take_all i xs past)

-- the least of some numbers, and of one more
least-append : (n : ℕ) (xs : List ℕ) (x : ℕ) → least n (xs ++ x ∷ []) ≡ min (least n xs) x
least-append n [] x = refl
least-append n (y ∷ xs) x = least-append (min n y) xs x

-- the least over the images of the elements that pass a test: one element more, which passes or not, and all elements
pub least_goes_on : {X : Type 0} (p : X → Bool) (f : X → ℕ) (xs : List X) (i : ℕ) (x : X) (n so_far : ℕ) → i < length xs
    → so_far ≡ least n (map f (filter p (take i xs)))
    → (if p (get_or xs i x) then min so_far (f (get_or xs i x)) else so_far) ≡ least n (map f (filter p (take (i + 1) xs)))
least_goes_on {X = X} p f xs i x n so_far lt before =
    let more : filter p (take (i + 1) xs) ≡ filter p (take i xs) ++ filter p (get_or xs i x ∷ []) =
    ap (λ ys. filter p ys) (take_more xs i x lt) ∙ filter-append p (take i xs) (get_or xs i x ∷ []) in
    elim (p (get_or xs i x)) as (λ t. filter p (take (i + 1) xs) ≡ filter p (take i xs) ++ (if t then get_or xs i x ∷ [] else [])
    → (if t then min so_far (f (get_or xs i x)) else so_far) ≡ least n (map f (filter p (take (i + 1) xs)))) [
      | true ↦ λ e. ap (λ m. min m (f (get_or xs i x))) before
          ∙ sym (least-append n (map f (filter p (take i xs))) (f (get_or xs i x)))
          ∙ ap (λ ys. least n ys) (sym (map-append f (filter p (take i xs)) (get_or xs i x ∷ [])))
          ∙ ap (λ ys. least n (map f ys)) (sym e)
      | false ↦ λ e. before ∙ ap (λ ys. least n (map f ys)) (sym (append-nil (filter p (take i xs))) ∙ sym e)
    ] more

-- it is no more than the number
pub least-small : (n : ℕ) (xs : List ℕ) → least n xs ≤ n
least-small n [] = omega arith
least-small n (x ∷ xs) = let rest = least-small (min n x) xs in omega (arith, rest)

-- nor than any of the others
pub least-below : (n : ℕ) (xs : List ℕ) (x : ℕ) → Contains xs x → least n xs ≤ x
least-below n [] x there = absurd (nil_contains x there)
least-below n (y ∷ xs) x there =
    elim (contains_cases y xs x there) [
      | inl here ↦ let rest = least-small (min n y) xs in omega (arith, rest, here)
      | inr later ↦ least-below (min n y) xs x later
    ]

-- the images of numbers from 0 on: one number more
pub range_goes_on : {Y : Type 0} (f : ℕ → Y) (n : ℕ) (front so_far now : List Y) → so_far ≡ front ++ map f (range_with_len 0 n)
    → now ≡ so_far ++ f n ∷ [] → now ≡ front ++ map f (range_with_len 0 (n + 1))
range_goes_on f n front so_far now before is =
    is ∙ ap (λ ys. ys ++ f n ∷ []) before ∙ append_assoc front (map f (range_with_len 0 n)) (f n ∷ [])
    ∙ ap (λ ys. front ++ ys) (sym (map-range_with_len_more f 0 n n (omega arith)))

-- a list that was written whole
pub written_all : {X : Type 0} (n : ℕ) (now before : List X) → length now ≡ length before → n ≡ length before
    → take n (now ++ drop (length now) before) ≡ now
written_all n now before long is =
    ap (λ ys. take n (now ++ ys)) (drop_all (length now) before (omega (arith, long)))
    ∙ ap (λ ys. take n ys) (append-nil now) ∙ take_all n now (omega (arith, long, is))
