-- Maps, filters and joins of lists, one behind the other: which of them are the same list.
--
-- Each is a recursion on the list: what is made of the first element stands in front of what is made of the rest.
use Rattle.std.proofs.Common.{◌≡◌, List, [], ◌∷◌, map, refl, ap, ◌++◌, Bool, true, false, cond, filter, ℕ, ◌+◌, sym, ◌∙◌, arith, length, get_or, not, All, sum, ◌||◌, ◌&&◌}
use Rattle.std.specs.List.{flat_map, range_with_len, concat, enumerate_from, position_or_len, list_any, AllByRecursion, filter}
use Rattle.std.proofs.lemmas.List.FromFn.{map-range_with_len_more, fill_by_all, length-enumerate_from, get_or-enumerate_from}
use Rattle.std.proofs.lemmas.List.{map-id, length-append}
use Rattle.std.specs.Prelude.{sum_by}
use Rattle.std.proofs.lemmas.List.Sums.{sum_by-cons}
use Rattle.std.proofs.lemmas.List.Elements.{filter-append, All-head, All-tail}

pub map_map : {X Y Z : Type 0} (g : Y → Z) (f : X → Y) (xs : List X) → map g (map f xs) ≡ map (λ x. g (f x)) xs
map_map g f [] = refl
map_map {Z = Z} g f (x ∷ xs) = ap (λ (zs : List Z). g (f x) ∷ zs) (map_map g f xs)

pub flat_map-map : {X Y Z : Type 0} (f : Y → List Z) (g : X → Y) (xs : List X) → flat_map f (map g xs) ≡ flat_map (λ x. f (g x)) xs
flat_map-map f g [] = refl
flat_map-map {Z = Z} f g (x ∷ xs) = ap (λ (ys : List Z). f (g x) ++ ys) (flat_map-map f g xs)

pub filter-map : {X Y : Type 0} (p : Y → Bool) (g : X → Y) (xs : List X) → filter p (map g xs) ≡ map g (filter (λ x. p (g x)) xs)
filter-map p g [] = refl
filter-map {Y = Y} p g (x ∷ xs) = by (p (g x)) (filter-map p g xs)
  where
    by : (t : Bool) → filter p (map g xs) ≡ map g (filter (λ x. p (g x)) xs)
        → cond t (g x ∷ filter p (map g xs)) (filter p (map g xs)) ≡ map g (cond t (x ∷ filter (λ x. p (g x)) xs) (filter (λ x. p
        (g x)) xs))
    by true ih = ap (λ (ys : List Y). g x ∷ ys) ih
    by false ih = ih

pub range_push : (n : ℕ) → range_with_len 0 (n + 1) ≡ range_with_len 0 n ++ n ∷ []
range_push n =
    sym (map-id (range_with_len 0 (n + 1))) ∙ map-range_with_len_more (λ (k : ℕ). k) 0 n n (omega arith)
    ∙ ap (λ (t : List ℕ). t ++ n ∷ []) (map-id (range_with_len 0 n))

pub length-joined : (texts : List (List ℕ)) → length (concat texts) ≡ sum_by length texts
length-joined [] = refl
length-joined (t ∷ texts) = omega (arith, length-joined texts, length-append t (concat texts), sum_by-cons length t texts)

pub filter-flat_map : {X Y : Type 0} (p : Y → Bool) (f : X → List Y) (xs : List X)
    → filter p (flat_map f xs) ≡ flat_map (λ x. filter p (f x)) xs
filter-flat_map p f [] = refl
filter-flat_map p f (x ∷ xs) = filter-append p (f x) (flat_map f xs) ∙ ap (λ ys. filter p (f x) ++ ys) (filter-flat_map p f xs)

-- filters by tests that agree
pub filter_same_test : {X : Type 0} (p q : X → Bool) (xs : List X) → ((x : X) → p x ≡ q x) → filter p xs ≡ filter q xs
filter_same_test p q [] agree = refl
filter_same_test p q (x ∷ xs) agree = rw (agree x, filter_same_test p q xs agree) refl

-- a list with the indexes of its elements
pub enumerated : {X : Type 0} (xs : List X) (d : X) → enumerate_from 0 xs ≡ map (λ i. (i, get_or xs i d)) (range_with_len 0 (length xs))
enumerated xs d =
    fill_by_all (λ i. (i, get_or xs i d)) (enumerate_from 0 xs) (length xs) (0, d) (length-enumerate_from 0 xs)
    (λ k h. get_or-enumerate_from 0 xs k (0, d) h ∙ ap (λ n. (n, get_or xs k d)) (omega arith))

-- the place of what a map tells
pub place_told : {X Y : Type 0} (t : Y → Bool) (f : X → Y) (xs : List X) → position_or_len (λ x. t (f x)) xs ≡ position_or_len t (map f xs)
place_told t f [] = refl
place_told t f (x ∷ xs) = ap (λ (n : ℕ). cond (not (t (f x))) (1 + n) 0) (place_told t f xs)

-- maps by functions that agree
pub map_agree : {X Y : Type 0} (f g : X → Y) (xs : List X) → All (λ x. f x ≡ g x) xs → map f xs ≡ map g xs
map_agree f g [] h = refl
map_agree {X} {Y} f g (x ∷ xs) h = ap (λ (y : Y). y ∷ map f xs) (All-head (λ a. f a ≡ g a) x xs h) ∙ ap (λ (ys : List Y). g x ∷ ys)
    (map_agree f g xs (All-tail (λ a. f a ≡ g a) x xs h))

-- numbers from a on, one more
pub range_more : (a n : ℕ) → range_with_len a (n + 1) ≡ range_with_len a n ++ (a + n) ∷ []
range_more a n = sym (map-id (range_with_len a (n + 1))) ∙ map-range_with_len_more (λ (k : ℕ). k) a n (a + n) refl ∙ ap
    (λ (ks : List ℕ). ks ++ (a + n) ∷ []) (map-id (range_with_len a n))

pub sum-cons : (x : ℕ) (xs : List ℕ) → sum (x ∷ xs) ≡ x + sum xs
sum-cons x xs = sum_by-cons (λ y. y) x xs

-- a test under a map
pub any_map : {X Y : Type 0} (p : Y → Bool) (g : X → Y) (xs : List X) → list_any p (map g xs) ≡ list_any (λ x. p (g x)) xs
any_map p g [] = refl
any_map p g (x ∷ xs) = ap (λ (b : Bool). p (g x) || b) (any_map p g xs)

pub any_agree : {X : Type 0} (p q : X → Bool) → ((x : X) → p x ≡ q x) → (xs : List X) → list_any p xs ≡ list_any q xs
any_agree p q e [] = refl
any_agree p q e (x ∷ xs) = ap (λ (b : Bool). b || list_any p xs) (e x) ∙ ap (λ (b : Bool). q x || b) (any_agree p q e xs)

pub any_filter : {X : Type 0} (p q : X → Bool) (xs : List X) → list_any p (filter q xs) ≡ list_any (λ x. q x && p x) xs
any_filter p q [] = refl
any_filter p q (x ∷ xs) = of (q x) refl (any_filter p q xs)
  where
    of : (t : Bool) → q x ≡ t → list_any p (filter q xs) ≡ list_any (λ y. q y && p y) xs
        → list_any p (filter q (x ∷ xs)) ≡ ((q x && p x) || list_any (λ y. q y && p y) xs)
    of true is rest =
        ap (λ t. list_any p (cond t (x ∷ filter q xs) (filter q xs))) is ∙ ap (λ u. p x || u) rest
        ∙ ap (λ t. (t && p x) || list_any (λ y. q y && p y) xs) (sym is)
    of false is rest =
        ap (λ t. list_any p (cond t (x ∷ filter q xs) (filter q xs))) is ∙ rest
        ∙ ap (λ t. (t && p x) || list_any (λ y. q y && p y) xs) (sym is)

pub all_filter : {A : Type 0} (P : A → Type 0) (p : A → Bool) (xs : List A) → AllByRecursion P xs → AllByRecursion P (filter p xs)
all_filter P p [] all = tt
all_filter P p (x ∷ xs) all = by (p x) (all_filter P p xs all.1)
  where
    by : (t : Bool) → AllByRecursion P (filter p xs) → AllByRecursion P (cond t (x ∷ filter p xs) (filter p xs))
    by true rest = (all.0, rest)
    by false rest = rest

-- what all of a list have, they have in weaker words
pub all_weaker : {A : Type 0} (P Q : A → Type 0) → ((x : A) → P x → Q x) → (xs : List A) → AllByRecursion P xs → AllByRecursion Q xs
all_weaker P Q weaker [] all = tt
all_weaker P Q weaker (x ∷ xs) all = (weaker x all.0, all_weaker P Q weaker xs all.1)

-- what is taken out of a list doesn't pass a test: the list passes it as before
pub any-filter : {X : Type 0} (p q : X → Bool) (xs : List X) → ((x : X) → p x ≡ false → q x ≡ false) → list_any q (filter p xs)
    ≡ list_any q xs
any-filter p q [] h = refl
any-filter {X} p q (x ∷ xs) h = by (any-filter p q xs h) (p x) refl
  where
    by : list_any q (filter p xs) ≡ list_any q xs → (b : Bool) → p x ≡ b → list_any q (cond b (x ∷ filter p xs) (filter p xs)) ≡
        (q x || list_any q xs)
    by rest true is = ap (λ (b : Bool). q x || b) rest
    by rest false is = rest ∙ sym (ap (λ (b : Bool). b || list_any q xs) (h x is))

pub filter-all : {X : Type 0} (t : X → Bool) (xs : List X) → All (λ x. t x ≡ true) xs → filter t xs ≡ xs
filter-all t [] h = refl
filter-all {X} t (x ∷ xs) h =
    ap (λ (b : Bool). cond b (x ∷ filter t xs) (filter t xs)) (All-head (λ a. t a ≡ true) x xs h) ∙ ap (λ (ys : List X). x ∷ ys)
    (filter-all t xs (All-tail (λ a. t a ≡ true) x xs h))

pub filter-none : {X : Type 0} (t : X → Bool) (xs : List X) → All (λ x. t x ≡ false) xs → filter t xs ≡ []
filter-none t [] h = refl
filter-none {X} t (x ∷ xs) h = ap (λ (b : Bool). cond b (x ∷ filter t xs) (filter t xs)) (All-head (λ a. t a ≡ false) x xs h)
    ∙ filter-none t xs (All-tail (λ a. t a ≡ false) x xs h)

pub filter_of_map : {X Y : Type 0} (f : X → Y) (t : Y → Bool) (xs : List X) → filter t (map f xs) ≡ map f (filter (λ x. t (f x)) xs)
filter_of_map f t [] = refl
filter_of_map {X} {Y} f t (x ∷ xs) = by (filter_of_map f t xs) (t (f x)) refl
  where
    by : filter t (map f xs) ≡ map f (filter (λ y. t (f y)) xs) → (b : Bool) → t (f x) ≡ b
        → filter t (f x ∷ map f xs) ≡ map f (filter (λ y. t (f y)) (x ∷ xs))
    by again true is = rw is (ap (λ (ys : List Y). f x ∷ ys) again)
    by again false is = rw is again
