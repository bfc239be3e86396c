-- Relations between each element of a list and each later one.
--
-- A transitive relation of neighbours is one of each element and each later one. It stays where elements are left out, and
-- holds of two lists
-- one behind the other where it holds in each and between them. In a list with repeats taken out no element is the same as a later one.
use Rattle.std.proofs.Common.{◌≡◌, ℕ, zero, suc, ◌<◌, Bool, true, false, List, [], ◌∷◌, ◌++◌, length, get_or, refl, arith, All, ◌+◌, ap, ◌∙◌, map, sym, nat_lt}
use Rattle.std.specs.Prelude.{filter, map, AllPairs, Contains}
use Rattle.std.proofs.lemmas.List.Elements.{All-filter, All-nil, All-cons, All-append}
use Rattle.std.proofs.lemmas.List.{get_or_default, get_or-map, length-map}
use Rattle.std.proofs.lemmas.Bool.{ltb-true}
use Rattle.std.proofs.lemmas.Bool.Decides.{nat_tests}

-- a relation holds of each element and each later one
abbrev pub EachLater : {X : Type 0} → (X → X → Type 0) → List X → Type 0
EachLater R [] = Unit {0}
EachLater R (x ∷ xs) = All (R x) xs × EachLater R xs

-- a relation holds between neighbours
abbrev pub NextTo : {X : Type 0} → (X → X → Type 0) → List X → Type 0
NextTo R xs = (k : ℕ) (x y : _) → (k < length xs) × (get_or xs k x ≡ x) → (k + 1 < length xs) × (get_or xs (k + 1) y ≡ y) → R x y

pub later_filter : {X : Type 0} (R : X → X → Type 0) (p : X → Bool) (xs : List X) → EachLater R xs → EachLater R (filter p xs)
later_filter R p [] later = tt
later_filter {X = X} R p (x ∷ xs) later = by (later_filter R p xs later.1) (p x) refl
  where
    by : EachLater R (filter p xs) → (b : Bool) → p x ≡ b → EachLater R (filter p (x ∷ xs))
    by rest true e = rw e (All-filter p (R x) xs later.0, rest)
    by rest false e = rw e rest

pub later_append : {X : Type 0} (R : X → X → Type 0) (xs ys : List X) → EachLater R xs → EachLater R ys → All (λ x. All (R x) ys) xs
    → EachLater R (xs ++ ys)
later_append R [] ys first second between = second
later_append R (x ∷ xs) ys first second between = (
  All-append (R x) xs ys first.0 (between 0 x (omega arith)),
  later_append R xs ys first.1 second (λ k d lt. between (suc k) d (omega arith)),
)

-- two elements by their numbers
pub later_at : {X : Type 0} (R : X → X → Type 0) (xs : List X) (d : X) (i j : ℕ) → EachLater R xs → i < j → j < length xs
    → R (get_or xs i d) (get_or xs j d)
later_at R [] d i j later lt below = absurd (omega arith)
later_at R (x ∷ xs) d i zero later lt below = absurd (omega arith)
later_at R (x ∷ xs) d zero (suc j) later lt below = later.0 j d (omega arith)
later_at R (x ∷ xs) d (suc i) (suc j) later lt below = later_at R xs d i j later.1 (omega arith) (omega arith)

-- a transitive relation that holds between each element and the next one holds of each element and each later one
pub each_later : {X : Type 0} (R : X → X → Type 0) → ((x y z : X) → R x y → R y z → R x z) → (xs : List X) → NextTo R xs → EachLater R xs
each_later R chain [] next = tt
each_later R chain (x ∷ []) next = (All-nil (R x), tt)
each_later {X = X} R chain (x ∷ y ∷ xs) next =
    let later : NextTo R (y ∷ xs) = λ k a b at_k at_next.
    let more : suc k + 1 ≡ suc (k + 1) = omega arith in
    let here : suc k < length (x ∷ y ∷ xs) = omega (arith, at_k.0) in
    let behind : suc k + 1 < length (x ∷ y ∷ xs) = omega (arith, at_next.0) in
    next (suc k) a b (here, at_k.1) (behind, ap (λ (n : ℕ). get_or (x ∷ y ∷ xs) n b) more ∙ at_next.1) in
    let rest = each_later R chain (y ∷ xs) later in
    let first : R x y = next 0 x y (omega arith, refl) (omega arith, refl) in
    (All-cons (R x) y xs first (λ k d lt. chain x y (get_or xs k d) first (rest.0 k d lt)), rest)

-- as an index of two numbers says it
pub later_pairs : {X : Type 0} (R : X → X → Type 0) (xs : List X) → AllPairs R xs → EachLater R xs
later_pairs R [] pairs = tt
later_pairs R (x ∷ xs) pairs = (
  λ k d lt. pairs 0 (suc k) d (omega arith) (omega (arith, lt)),
  later_pairs R xs (λ i j d lt within. pairs (suc i) (suc j) d (omega arith) (omega arith)),
)

-- a list with some elements left out
pub data Sub {X : Type 0} : List X → List X → Type 0 where
  none : Sub [] []
  keep : {x : X} {xs ys : List X} → Sub xs ys → Sub (x ∷ xs) (x ∷ ys)
  skip : {x : X} {xs ys : List X} → Sub xs ys → Sub xs (x ∷ ys)

pub sub_all : {X : Type 0} (P : X → Type 0) (xs ys : List X) → Sub xs ys → All P ys → All P xs
sub_all P xs ys none each = each
sub_all P xs ys (keep {x = x} {xs = us} {ys = vs} sub) each =
    All-cons P x us (each 0 x (omega arith)) (sub_all P us vs sub (λ k d lt. each (suc k) d (omega arith)))
sub_all P xs ys (skip {x = x} {xs = us} {ys = vs} sub) each = sub_all P us vs sub (λ k d lt. each (suc k) d (omega arith))

pub sub_later : {X : Type 0} (R : X → X → Type 0) (xs ys : List X) → Sub xs ys → EachLater R ys → EachLater R xs
sub_later R xs ys none later = tt
sub_later R xs ys (keep {x = x} {xs = us} {ys = vs} sub) later = (sub_all (R x) us vs sub later.0, sub_later R us vs sub later.1)
sub_later R xs ys (skip {x = x} {xs = us} {ys = vs} sub) later = sub_later R us vs sub later.1

pub sub_same : {X : Type 0} (xs : List X) → Sub xs xs
sub_same [] = none
sub_same (x ∷ xs) = keep (sub_same xs)

pub sub_append : {X : Type 0} (us vs xs ys : List X) → Sub us vs → Sub xs ys → Sub (us ++ xs) (vs ++ ys)
sub_append us vs xs ys none sub = sub
sub_append us vs xs ys (keep {xs = ps} {ys = qs} first) sub = keep (sub_append ps qs xs ys first sub)
sub_append us vs xs ys (skip {xs = ps} {ys = qs} first) sub = skip (sub_append ps qs xs ys first sub)

-- all of a list left out
pub sub_dropped : {X : Type 0} (xs : List X) → Sub [] xs
sub_dropped [] = none
sub_dropped (x ∷ xs) = skip (sub_dropped xs)

-- what doesn't pass a test left out
pub sub_filter : {X Y : Type 0} (f : X → Y) (p : X → Bool) (xs : List X) → Sub (map f (filter p xs)) (map f xs)
sub_filter f p [] = none
sub_filter f p (x ∷ xs) = by (sub_filter f p xs) (p x) refl
  where
    by : Sub (map f (filter p xs)) (map f xs) → (b : Bool) → p x ≡ b → Sub (map f (filter p (x ∷ xs))) (map f (x ∷ xs))
    by rest true e = rw e (keep rest)
    by rest false e = rw e (skip rest)

-- and back
pub later_all : {X : Type 0} (R : X → X → Type 0) (xs : List X) → EachLater R xs → AllPairs R xs
later_all R xs later i j d lt within = later_at R xs d i j later lt within

-- elements that a relation tells apart stand at one number where they are the same
pub one_number : {X Y : Type 0} (R : Y → Y → Type 0) (f : X → Y) (xs : List X) (d : X) → ((a b : Y) → a ≡ b → R a b → ⊥)
    → EachLater R (map f xs)
    → (i j : ℕ) → i < length xs → j < length xs → f (get_or xs i d) ≡ f (get_or xs j d) → i ≡ j
one_number {X = X} {Y = Y} R f xs d apart later i j lt below same = by (nat_lt i j) (nat_lt j i) refl refl
  where
    long : length (map f xs) ≡ length xs
    long = length-map xs f

    at : (k : ℕ) → k < length xs → get_or (map f xs) k (f d) ≡ f (get_or xs k d)
    at k low = get_or-map f xs k d (f d) low

    by : (x y : Bool) → nat_lt i j ≡ x → nat_lt j i ≡ y → i ≡ j
    by true y p q =
        let less : i < j = ltb-true i j p in
        let both = later_at R (map f xs) (f d) i j later less (omega (arith, below, long)) in
        absurd (apart (get_or (map f xs) i (f d)) (get_or (map f xs) j (f d)) (at i lt ∙ same ∙ sym (at j below)) both)
    by false true p q =
        let less : j < i = ltb-true j i q in
        let both = later_at R (map f xs) (f d) j i later less (omega (arith, lt, long)) in
        absurd (apart (get_or (map f xs) j (f d)) (get_or (map f xs) i (f d)) (at j below ∙ sym same ∙ sym (at i lt)) both)
    by false false p q = grind (arith, nat_tests)

-- so two elements of the list that are the same are one
pub one_element : {X Y : Type 0} (R : Y → Y → Type 0) (f : X → Y) (xs : List X) → ((a b : Y) → a ≡ b → R a b → ⊥) → EachLater R (map f xs)
    → (x y : X) → Contains xs x → Contains xs y → f x ≡ f y → x ≡ y
one_element R f xs apart later x y here there same =
    let at_x : get_or xs here.0 x ≡ x = here.2 in
    let at_y : get_or xs there.0 x ≡ y = get_or_default xs there.0 x y there.1 ∙ there.2 in
    let number : here.0 ≡ there.0 = one_number R f xs x apart later here.0 there.0 here.1 there.1 (ap f at_x ∙ same ∙ sym (ap f at_y)) in
    sym at_x ∙ ap (λ (k : ℕ). get_or xs k x) number ∙ at_y
