-- Which elements a list has: of a list made of others, in terms of these, both ways.
--
-- An element is the first one or one of the rest. So each lemma is a recursion on the list: what is made of the first element stands in
-- front of what is made of the rest.
use Rattle.std.proofs.Common.{◌≡◌, ℕ, zero, suc, ◌+◌, ◌<◌, ◌⊎◌, inl, inr, Bool, true, false, List, [], ◌∷◌, ◌++◌, map, length, get_or, refl, sym, ap, subst, ◌∙◌, arith, All, Option, Some, None, filter, Contains}
use Rattle.std.specs.Prelude.{filter, Contains}
use Rattle.std.specs.List.{flat_map, range_with_len, enumerate_from, list_all, list_any, position_or_len, filter_map, Contains}
use Rattle.std.proofs.lemmas.List.Concat.{flat_map-cons}
use Rattle.std.proofs.lemmas.List.{get_or_default, get_or_append_left, length-append, get_or-append-add, get_or-map, length-map}
use Rattle.std.proofs.lemmas.List.Elements.{Contains-append_left, Contains-append_right, Contains-append_cases, Contains-get_or, All-contains, All-filter, All-contains_itself, All-head, All-tail}
use Rattle.std.proofs.lemmas.List.FromFn.{get_or-range_with_len, length-range_with_len, get_or-enumerate_from, length-enumerate_from}
use Rattle.std.proofs.lemmas.Bool.{or_cases, cases_lt, false≢true}
use Rattle.std.proofs.lemmas.List.Sums.{fails_before_first}
use Rattle.std.proofs.lemmas.List.Folds.{Any-from_list_any, list_all_at}
use Rattle.macho_bytes.proofs.Bools.{not_false, true_or_false, and_both}

pub contains_first : {X : Type 0} (x : X) (xs : List X) → Contains (x ∷ xs) x
contains_first x xs = (0, omega arith, refl)

pub contains_later : {X : Type 0} (x : X) (xs : List X) (y : X) → Contains xs y → Contains (x ∷ xs) y
contains_later x xs y there = (suc there.0, omega (arith, there.1), there.2)

-- an element is the first one or one of the rest
pub contains_cases : {X : Type 0} (x : X) (xs : List X) (y : X) → Contains (x ∷ xs) y → (x ≡ y) ⊎ Contains xs y
contains_cases x xs y (zero, lt, is) = inl is
contains_cases x xs y (suc k, lt, is) = inr (k, omega arith, is)

pub nil_contains : {X : Type 0} (y : X) → Contains [] y → ⊥
nil_contains y there = absurd (omega (arith, there.1))

-- what holds of each element holds of one of them
pub all_contains : {X : Type 0} (P : X → Type 0) (xs : List X) (x : X) → All P xs → Contains xs x → P x
all_contains P xs x each there = subst P there.2 (each there.0 x there.1)

-- what holds of all that the list has holds of each element
pub contains_all : {X : Type 0} (P : X → Type 0) (xs : List X) → ((x : X) → Contains xs x → P x) → All P xs
contains_all P xs each k d lt = each (get_or xs k d) (k, lt, sym (get_or_default xs k d (get_or xs k d) lt))

pub contains_map : {X Y : Type 0} (f : X → Y) (xs : List X) (x : X) → Contains xs x → Contains (map f xs) (f x)
contains_map f [] x there = absurd (nil_contains x there)
contains_map {X = X} f (y ∷ xs) x there = by (contains_map f xs x) (contains_cases y xs x there)
  where
    by : (Contains xs x → Contains (map f xs) (f x)) → (y ≡ x) ⊎ Contains xs x → Contains (map f (y ∷ xs)) (f x)
    by rest (inl e) = subst (λ (z : X). Contains (map f (y ∷ xs)) (f z)) e (contains_first (f y) (map f xs))
    by rest (inr later) = contains_later (f y) (map f xs) (f x) (rest later)

pub map_contains : {X Y : Type 0} (f : X → Y) (xs : List X) (y : Y) → Contains (map f xs) y → (x : X) × Contains xs x × (f x ≡ y)
map_contains f [] y there = absurd (nil_contains y there)
map_contains {X = X} f (x ∷ xs) y there = by (map_contains f xs y) (contains_cases (f x) (map f xs) y there)
  where
    by : (Contains (map f xs) y → (z : X) × Contains xs z × (f z ≡ y)) → (f x ≡ y) ⊎ Contains (map f xs) y
        → (z : X) × Contains (x ∷ xs) z × (f z ≡ y)
    by rest (inl e) = (x, contains_first x xs, e)
    by rest (inr later) = (((rest later).0), contains_later x xs (rest later).0 (rest later).1, (rest later).2)

pub contains_filter : {X : Type 0} (p : X → Bool) (xs : List X) (x : X) → Contains xs x → p x ≡ true → Contains (filter p xs) x
contains_filter p [] x there passes = absurd (nil_contains x there)
contains_filter {X = X} p (y ∷ xs) x there passes =
    by (λ later. contains_filter p xs x later passes) (p y) refl (contains_cases y xs x there)
  where
    by : (Contains xs x → Contains (filter p xs) x) → (b : Bool) → p y ≡ b → (y ≡ x) ⊎ Contains xs x → Contains (filter p (y ∷ xs)) x
    by rest true e (inl same) = rw e (subst (λ (z : X). Contains (y ∷ filter p xs) z) same (contains_first y (filter p xs)))
    by rest true e (inr later) = rw e (contains_later y (filter p xs) x (rest later))
    by rest false e (inl same) =
        let both : true ≡ false = sym passes ∙ sym (ap p same) ∙ e in
        cc
    by rest false e (inr later) = rw e (rest later)

pub filter_contains : {X : Type 0} (p : X → Bool) (xs : List X) (x : X) → Contains (filter p xs) x → Contains xs x × (p x ≡ true)
filter_contains p [] x there = absurd (nil_contains x there)
filter_contains {X = X} p (y ∷ xs) x there = by (filter_contains p xs x) (p y) refl there
  where
    first : (Contains (filter p xs) x → Contains xs x × (p x ≡ true)) → p y ≡ true → (y ≡ x) ⊎ Contains (filter p xs) x
        → Contains (y ∷ xs) x × (p x ≡ true)
    first rest e (inl same) = (subst (λ (z : X). Contains (y ∷ xs) z) same (contains_first y xs), ap p (sym same) ∙ e)
    first rest e (inr later) = (contains_later y xs x (rest later).0, (rest later).1)

    by : (Contains (filter p xs) x → Contains xs x × (p x ≡ true)) → (b : Bool) → p y ≡ b → Contains (filter p (y ∷ xs)) x
        → Contains (y ∷ xs) x × (p x ≡ true)
    by rest true e has = first rest e (contains_cases y (filter p xs) x (rw e at has))
    by rest false e has =
        let kept : Contains (filter p xs) x = rw e at has in
        (contains_later y xs x (rest kept).0, (rest kept).1)

pub contains_flat_map : {X Y : Type 0} (f : X → List Y) (xs : List X) (x : X) (y : Y) → Contains xs x → Contains (f x) y
    → Contains (flat_map f xs) y
contains_flat_map f [] x y there has = absurd (nil_contains x there)
contains_flat_map {X = X} f (z ∷ xs) x y there has =
    rw (flat_map-cons f z xs) (by (λ later. contains_flat_map f xs x y later has) (contains_cases z xs x there))
  where
    by : (Contains xs x → Contains (flat_map f xs) y) → (z ≡ x) ⊎ Contains xs x → Contains (f z ++ flat_map f xs) y
    by rest (inl same) = Contains-append_left (f z) (flat_map f xs) y (subst (λ (w : X). Contains (f w) y) (sym same) has)
    by rest (inr later) = Contains-append_right (f z) (flat_map f xs) y (rest later)

pub flat_map_contains : {X Y : Type 0} (f : X → List Y) (xs : List X) (y : Y) → Contains (flat_map f xs) y
    → (x : X) × Contains xs x × Contains (f x) y
flat_map_contains f [] y there = absurd (nil_contains y there)
flat_map_contains {X = X} f (x ∷ xs) y there =
    by (flat_map_contains f xs y) (Contains-append_cases (f x) (flat_map f xs) y (rw (flat_map-cons f x xs) at there))
  where
    by : (Contains (flat_map f xs) y → (z : X) × Contains xs z × Contains (f z) y) → Contains (f x) y ⊎ Contains (flat_map f xs) y
        → (z : X) × Contains (x ∷ xs) z × Contains (f z) y
    by rest (inl here) = (x, contains_first x xs, here)
    by rest (inr later) = ((rest later).0, contains_later x xs (rest later).0 (rest later).1, (rest later).2)

-- numbers from 0 on
pub contains_range : (n k : ℕ) → k < n → Contains (range_with_len 0 n) k
contains_range n k lt = (k, omega (arith, length-range_with_len 0 n), get_or-range_with_len 0 n k k lt ∙ omega arith)

pub range_contains : (n k : ℕ) → Contains (range_with_len 0 n) k → k < n
range_contains n k there =
    let lt : there.0 < n = omega (arith, there.1, length-range_with_len 0 n) in
    let at_k : get_or (range_with_len 0 n) there.0 k ≡ 0 + there.0 = get_or-range_with_len 0 n there.0 k lt in
    omega (arith, at_k, there.2, lt)

-- elements with their numbers
pub contains_enumerate : {X : Type 0} (xs : List X) (k : ℕ) (x : X) → k < length xs → get_or xs k x ≡ x
    → Contains (enumerate_from 0 xs) (k, x)
contains_enumerate {X = X} xs k x lt is =
    let e : get_or (enumerate_from 0 xs) k (k, x) ≡ (0 + k, get_or xs k x) = get_or-enumerate_from 0 xs k (k, x) lt in
    let number : 0 + k ≡ k = omega arith in
    let same : (0 + k, get_or xs k x) ≡ (k, x) = ap (λ (i : ℕ). (i, get_or xs k x)) number ∙ ap (λ (y : X). (k, y)) is in
    let long : length (enumerate_from 0 xs) ≡ length xs = length-enumerate_from 0 xs in
    (k, omega (arith, lt, long), e ∙ same)

pub enumerate_contains : {X : Type 0} (xs : List X) (i : ℕ × X) → Contains (enumerate_from 0 xs) i
    → (i.0 < length xs) × (get_or xs i.0 i.1 ≡ i.1)
enumerate_contains {X = X} xs i there =
    let lt : there.0 < length xs = omega (arith, there.1, length-enumerate_from 0 xs) in
    let e : (0 + there.0, get_or xs there.0 i.1) ≡ i = sym (get_or-enumerate_from 0 xs there.0 i lt) ∙ there.2 in
    let number : there.0 ≡ i.0 = omega (arith, ap (λ (p : ℕ × X). p.0) e) in
    (omega (arith, lt, number), ap (λ (n : ℕ). get_or xs n i.1) (sym number) ∙ ap (λ (p : ℕ × X). p.1) e)

-- what passes a test among some
pub any_contains : {X : Type 0} (p : X → Bool) (xs : List X) → list_any p xs ≡ true → (x : X) × Contains xs x × (p x ≡ true)
any_contains p [] e = cc
any_contains {X = X} p (x ∷ xs) e = elim (or_cases (p x) (list_any p xs) e) [
  | inl here ↦ (x, contains_first x xs, here)
  | inr rest ↦ let m = any_contains p xs rest in (m.0, contains_later x xs m.0 m.1, m.2)
]

-- what is in a list has a place in it
pub position_below : {X : Type 0} (p : X → Bool) (xs : List X) (x : X) → Contains xs x → p x ≡ true → position_or_len p xs < length xs
position_below {X} p xs x (k, lt, is) passes =
    elim (cases_lt (position_or_len p xs) (length xs)) [
      | inl here ↦ here
      | inr past ↦ absurd (false≢true (sym (fails_before_first p xs k x (omega arith)) ∙ ap p is ∙ passes))
    ]

pub contains_filter_map : {X Y : Type 0} (h : X → Option Y) (xs : List X) (x : X) (y : Y) → Contains xs x → h x ≡ Some y
    → Contains (filter_map h xs) y
contains_filter_map h [] x y there is = absurd (nil_contains x there)
contains_filter_map {X = X} {Y = Y} h (z ∷ xs) x y there is =
    by (λ later. contains_filter_map h xs x y later is) (h z) refl (contains_cases z xs x there)
  where
    by : (Contains xs x → Contains (filter_map h xs) y) → (o : Option Y) → h z ≡ o → (z ≡ x) ⊎ Contains xs x
        → Contains (filter_map h (z ∷ xs)) y
    by rest (Some w) e (inl same) =
        let one : Some w ≡ Some y = sym e ∙ ap h same ∙ is in
        rw e (subst (λ (v : Y). Contains (w ∷ filter_map h xs) v) (let r : w ≡ y = cc in r) (contains_first w (filter_map h xs)))
    by rest (Some w) e (inr later) = rw e (contains_later w (filter_map h xs) y (rest later))
    by rest None e (inl same) =
        let no : None ≡ Some y = sym e ∙ ap h same ∙ is in
        cc
    by rest None e (inr later) = rw e (rest later)

pub filter_map_contains : {X Y : Type 0} (h : X → Option Y) (xs : List X) (y : Y) → Contains (filter_map h xs) y
    → (x : X) × Contains xs x × (h x ≡ Some y)
filter_map_contains h [] y there = absurd (nil_contains y there)
filter_map_contains {X = X} {Y = Y} h (x ∷ xs) y there = by (filter_map_contains h xs y) (h x) refl there
  where
    from : ((z : X) × Contains xs z × (h z ≡ Some y)) → (z : X) × Contains (x ∷ xs) z × (h z ≡ Some y)
    from rest = (rest.0, contains_later x xs rest.0 rest.1, rest.2)

    first : (Contains (filter_map h xs) y → (z : X) × Contains xs z × (h z ≡ Some y)) → (w : Y) → h x ≡ Some w
        → (w ≡ y) ⊎ Contains (filter_map h xs) y → (z : X) × Contains (x ∷ xs) z × (h z ≡ Some y)
    first rest w e (inl same) = (x, contains_first x xs, e ∙ ap Some same)
    first rest w e (inr later) = from (rest later)

    by : (Contains (filter_map h xs) y → (z : X) × Contains xs z × (h z ≡ Some y)) → (o : Option Y) → h x ≡ o
        → Contains (filter_map h (x ∷ xs)) y → (z : X) × Contains (x ∷ xs) z × (h z ≡ Some y)
    by rest (Some w) e has = first rest w e (contains_cases w (filter_map h xs) y (rw e at has))
    by rest None e has =
        let kept : Contains (filter_map h xs) y = rw e at has in
        from (rest kept)

pub unfilter_contains : {X : Type 0} (test : X → Bool) (xs : List X) (x : X) → Contains (filter test xs) x → Contains xs x
unfilter_contains test xs x h = All-contains (Contains xs) (filter test xs) x (All-filter test (Contains xs) xs (All-contains_itself xs)) h

pub all_left : {X : Type 0} (P : X → Type 0) (xs ys : List X) → All P (xs ++ ys) → All P xs
all_left P xs ys h k d lt = subst P (get_or_append_left xs ys d k lt) (h k d (omega (arith, lt, length-append xs ys)))

pub all_right : {X : Type 0} (P : X → Type 0) (xs ys : List X) → All P (xs ++ ys) → All P ys
all_right P xs ys h k d lt = subst P (get_or-append-add xs ys k d) (h (length xs + k) d (omega (arith, lt, length-append xs ys)))

pub all_unmap : {X Y : Type 0} (P : Y → Type 0) (f : X → Y) (xs : List X) → All P (map f xs) → All (λ x. P (f x)) xs
all_unmap P f xs h k d lt = subst P (get_or-map f xs k d (f d) lt) (h k (f d) (omega (arith, lt, length-map xs f)))

-- the first place that passes is inside where some place passes
pub place_inside : {X : Type 0} (p : X → Bool) (xs : List X) → list_any p xs ≡ true → position_or_len p xs < length xs
place_inside p xs some =
    let a = Any-from_list_any p xs some in
    elim (cases_lt (position_or_len p xs) (length xs)) [
      | inl inside ↦ inside
      | inr past ↦ absurd (false≢true (sym (fails_before_first p xs a.0 a.1 (omega (arith, a.2))) ∙ ap p a.3 ∙ a.4))
    ]

-- all elements pass
pub all_pass : {X : Type 0} (test : X → Bool) (xs : List X) → list_all test xs ≡ true → All (λ x. test x ≡ true) xs
all_pass test xs h k d lt = not_false (test (get_or xs k d)) (λ no. true_or_false (list_all test xs) h (list_all_at test xs k d lt no))

-- what passes for all of a list passes for one of it, and back
pub one_passes : {X : Type 0} (test : X → Bool) (xs : List X) (x : X) → list_all test xs ≡ true → Contains xs x → test x ≡ true
one_passes test xs x h one = All-contains (λ y. test y ≡ true) xs x (all_pass test xs h) one

pub pass_all : {X : Type 0} (test : X → Bool) (xs : List X) → All (λ x. test x ≡ true) xs → list_all test xs ≡ true
pass_all test [] h = refl
pass_all test (x ∷ xs) h =
    and_both (test x) (list_all test xs) (All-head (λ y. test y ≡ true) x xs h) (pass_all test xs (All-tail (λ y. test y ≡ true) x xs h))

pub passes_each : {X : Type 0} (test : X → Bool) (xs : List X) → ((x : X) → Contains xs x → test x ≡ true) → list_all test xs ≡ true
passes_each test xs h = pass_all test xs (λ k d lt. h (get_or xs k d) (Contains-get_or xs k d lt))

pub contains_behind : {X : Type 0} (x y : X) (xs : List X) → Contains xs y → Contains (x ∷ xs) y
contains_behind x y xs (k, lt, is) = (suc k, omega arith, is)
