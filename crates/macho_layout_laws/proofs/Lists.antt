-- Lists: pairs of a list behind a list, lists that agree element by element, and what a filter keeps.
--
-- All pairs of two lists are those of each, and those of an element of the first with one of the second. Where elements of two
-- lists correspond and tests agree on them, filters of the lists correspond too. An element that passes is kept.
use Rattle.std.proofs.Common.{◌≡◌, ℕ, zero, suc, ◌<◌, Bool, true, false, cond, List, [], ◌∷◌, ◌++◌, map, filter, length, get_or, All, AllPairs, Contains, refl, sym, ap, ◌∙◌, subst, arith, inl, inr}
use Rattle.std.specs.List.{AllZip}
use Rattle.std.proofs.lemmas.Bool.{cases_lt}
use Rattle.std.proofs.lemmas.List.{get_or_default}
use Rattle.std.proofs.lemmas.List.Elements.{All-nil, All-cons, All-head, All-tail, All-append, All-filter, filter_passes}
use Rattle.std.proofs.lemmas.List.Kept.{AllPairs-cons}
use Rattle.macho_bytes.proofs.Pairs.{pairs_tail, pairs_head}

-- pairs of a list behind a list
pub pairs_append : {X : Type 0} (R : X → X → Type 0) (xs ys : List X) → AllPairs R xs → AllPairs R ys → All (λ x. All (R x) ys) xs
    → AllPairs R (xs ++ ys)
pairs_append R [] ys one two both = two
pairs_append R (x ∷ xs) ys one two both =
    AllPairs-cons R x (xs ++ ys) (All-append (R x) xs ys (pairs_head R x xs one) (All-head (λ a. All (R a) ys) x xs both))
    (pairs_append R xs ys (pairs_tail R x xs one) two (All-tail (λ a. All (R a) ys) x xs both))

pub pairs_weaker : {X : Type 0} (R S : X → X → Type 0) → ((a b : X) → R a b → S a b) → (xs : List X) → AllPairs R xs → AllPairs S xs
pairs_weaker R S w xs h i j d before within = w _ _ (h i j d before within)

-- of elements with a key, where no two have one key, those of one key are one
pub same_element : {X : Type 0} (key : X → ℕ) (xs : List X) (a b : X) → AllPairs (λ x y. key x ≡ key y → ⊥) xs → Contains xs a
    → Contains xs b → key a ≡ key b → a ≡ b
same_element {X} key xs a b apart (i, low_i, at_i) (j, low_j, at_j) same = elim (cases_lt i j) [
  | inl before ↦
      let e : key (get_or xs i b) ≡ key (get_or xs j b) = ap key (get_or_default xs i b a low_i ∙ at_i) ∙ same ∙ ap key (sym at_j) in
      absurd (apart i j b before low_j e)
  | inr le ↦ elim (cases_lt j i) [
    | inl before ↦
        let e : key (get_or xs j a) ≡ key (get_or xs i a) = ap key (get_or_default xs j a b low_j ∙ at_j) ∙ sym same ∙ ap key (sym at_i) in
        absurd (apart j i a before low_i e)
    | inr ge ↦
        let here : i ≡ j = omega (arith, le, ge) in
        sym at_i ∙ get_or_default xs i a b low_i ∙ ap (λ k. get_or xs k b) here ∙ at_j
  ]
]

-- lists that agree element by element
pub zip_map : {X Y Z : Type 0} (R : X → Y → Type 0) (f : X → Z) (g : Y → Z) → ((x : X) (y : Y) → R x y → f x ≡ g y) → (xs : List X)
    (ys : List Y) → AllZip R xs ys → map f xs ≡ map g ys
zip_map R f g e [] [] h = refl
zip_map R f g e [] (y ∷ ys) h = absurd h
zip_map R f g e (x ∷ xs) [] h = absurd h
zip_map {X} {Y} {Z} R f g e (x ∷ xs) (y ∷ ys) h = ap (λ (z : Z). z ∷ map f xs) (e x y h.0) ∙ ap (λ (zs : List Z). g y ∷ zs)
    (zip_map R f g e xs ys h.1)

pub zip_all : {X Y : Type 0} (R : X → Y → Type 0) (Q : Y → Type 0) (P : X → Type 0) → ((x : X) (y : Y) → R x y → Q y → P x) → (xs : List X)
    (ys : List Y) → AllZip R xs ys → All Q ys → All P xs
zip_all R Q P e [] ys h q = All-nil P
zip_all R Q P e (x ∷ xs) [] h q = absurd h
zip_all R Q P e (x ∷ xs) (y ∷ ys) h q = All-cons P x xs (e x y h.0 (All-head Q y ys q)) (zip_all R Q P e xs ys h.1 (All-tail Q y ys q))

-- what corresponds to an element
pub zip_find : {X Y : Type 0} (R : X → Y → Type 0) (xs : List X) (ys : List Y) (x : X) → AllZip R xs ys → Contains xs x → (y : Y)
    × Contains ys y × R x y
zip_find {X} {Y} R xs ys x h (k, low, is) = go xs ys k h low is
  where
    go : (xs : List X) (ys : List Y) (k : ℕ) → AllZip R xs ys → k < length xs → get_or xs k x ≡ x → (y : Y) × Contains ys y × R x y
    go [] ys k h low is = absurd (omega arith)
    go (a ∷ xs) [] k h low is = absurd h
    go (a ∷ xs) (b ∷ ys) zero h low is = (b, (0, omega arith, refl), subst (λ (z : X). R z b) is h.0)
    go (a ∷ xs) (b ∷ ys) (suc k) h low is = let r = go xs ys k h.1 (omega arith) is in (r.0, (suc r.1.0, omega (arith, r.1.1), r.1.2), r.2)

-- a filter by a test that has one answer
pub filter_flag : {X : Type 0} (t : X → Bool) (b : Bool) (xs : List X) → All (λ x. t x ≡ b) xs → filter t xs ≡ cond b xs []
filter_flag t true [] h = refl
filter_flag t false [] h = refl
filter_flag {X} t true (x ∷ xs) h =
    ap (λ (c : Bool). cond c (x ∷ filter t xs) (filter t xs)) (All-head (λ a. t a ≡ true) x xs h) ∙ ap (λ (ys : List X). x ∷ ys)
    (filter_flag t true xs (All-tail (λ a. t a ≡ true) x xs h))
filter_flag {X} t false (x ∷ xs) h =
    ap (λ (c : Bool). cond c (x ∷ filter t xs) (filter t xs)) (All-head (λ a. t a ≡ false) x xs h) ∙ filter_flag t false xs
    (All-tail (λ a. t a ≡ false) x xs h)

-- what holds of one of them beside
pub zip_and : {X Y : Type 0} (R : X → Y → Type 0) (Q : Y → Type 0) (xs : List X) (ys : List Y) → AllZip R xs ys → All Q ys → AllZip
    (λ x y. R x y × Q y) xs ys
zip_and R Q [] [] h q = tt
zip_and R Q [] (y ∷ ys) h q = absurd h
zip_and R Q (x ∷ xs) [] h q = absurd h
zip_and R Q (x ∷ xs) (y ∷ ys) h q = ((h.0, All-head Q y ys q), zip_and R Q xs ys h.1 (All-tail Q y ys q))

-- what elements keep that a filter keeps
pub filter_keeps : {X : Type 0} (t : X → Bool) (P : X → Type 0) (xs : List X) → All (λ x. t x ≡ true → P x) xs → All P (filter t xs)
filter_keeps t P xs h k d low = All-filter t (λ x. t x ≡ true → P x) xs h k d low (filter_passes t xs k d low)

-- two lists
pub all_both : {X Y : Type 0} (P : X → Type 0) (Q : Y → Type 0) (R : X → Y → Type 0) → ((x : X) (y : Y) → P x → Q y → R x y) → (xs : List X)
    (ys : List Y) → All P xs → All Q ys
    → All (λ x. All (R x) ys) xs
all_both P Q R e xs ys h k i d low j c within = e _ _ (h i d low) (k j c within)

-- their filters
pub zip_filter : {X Y : Type 0} (R : X → Y → Type 0) (t : X → Bool) (u : Y → Bool) → ((x : X) (y : Y) → R x y → t x ≡ u y) → (xs : List X)
    (ys : List Y) → AllZip R xs ys
    → AllZip R (filter t xs) (filter u ys)
zip_filter R t u e [] [] h = tt
zip_filter R t u e [] (y ∷ ys) h = absurd h
zip_filter R t u e (x ∷ xs) [] h = absurd h
zip_filter {X} {Y} R t u e (x ∷ xs) (y ∷ ys) h =
    subst (λ (b : Bool). AllZip R (cond b (x ∷ filter t xs) (filter t xs)) (filter u (y ∷ ys))) (sym (e x y h.0))
    (by (u y) (zip_filter R t u e xs ys h.1))
  where
    by : (b : Bool) → AllZip R (filter t xs) (filter u ys) → AllZip R (cond b (x ∷ filter t xs) (filter t xs))
        (cond b (y ∷ filter u ys) (filter u ys))
    by true rest = (h.0, rest)
    by false rest = rest

-- each of two tests
pub flag_pairs : {X : Type 0} (R : X → X → Type 0) (b : Bool) (x : X) → AllPairs R (cond b (x ∷ []) [])
flag_pairs R true x i j d before within = absurd (omega arith)
flag_pairs R false x i j d before within = absurd (omega arith)
