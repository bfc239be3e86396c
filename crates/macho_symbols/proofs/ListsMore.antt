-- Lists: filters and maps of lists that are joined, or made of a range of indexes.
use Rattle.std.proofs.Common.{◌≡◌, ℕ, ◌+◌, ◌<◌, ◌≤◌, Bool, true, false, cond, ◌&&◌, List, [], ◌∷◌, ◌++◌, length, map, filter, get_or, refl, ap, sym, ◌∙◌, arith, suc, zero}
use Rattle.std.specs.List.{flat_map, enumerate_from, range_with_len}

-- two functions that agree on each index
pub flat_map_same : {Y : Type 0} (f g : ℕ → List Y) (a n : ℕ) → ((k : ℕ) → a ≤ k → k < a + n → f k ≡ g k)
    → flat_map f (range_with_len a n) ≡ flat_map g (range_with_len a n)
flat_map_same f g a zero agree = refl
flat_map_same f g a (suc n) agree =
    rw (
      agree a (omega arith) (omega arith),
      flat_map_same f g (a + 1) n
          (λ k low high. agree k (omega (arith, low)) (omega (arith, high))),
    ) refl

-- a filter of one list made of a range is that of another, element by element
pub filter_made : {Y Z : Type 0} (p : Y → Bool) (q : Z → Bool) (f : ℕ → Y) (g : ℕ → Z) (h : Z → Y) (a n : ℕ)
    → ((k : ℕ) → a ≤ k → k < a + n → (h (g k) ≡ f k) × (p (f k) ≡ q (g k)))
    → filter p (map f (range_with_len a n)) ≡ map h (filter q (map g (range_with_len a n)))
filter_made p q f g h a zero agree = refl
filter_made p q f g h a (suc n) agree = of (q (g a)) refl
    (filter_made p q f g h (a + 1) n (λ k low high. agree k (omega (arith, low)) (omega (arith, high))))
  where
    here : (h (g a) ≡ f a) × (p (f a) ≡ q (g a))
    here = agree a (omega arith) (omega arith)

    of : (t : Bool) → q (g a) ≡ t → filter p (map f (range_with_len (a + 1) n)) ≡ map h (filter q (map g (range_with_len (a + 1) n)))
        → filter p (f a ∷ map f (range_with_len (a + 1) n)) ≡ map h (filter q (g a ∷ map g (range_with_len (a + 1) n)))
    of true passes rest = rw (here.1 ∙ passes, passes, rest, ← here.0) refl
    of false fails rest = rw (here.1 ∙ fails, fails) rest

-- a filter whose test fails on each element of a list made of a range
pub filter_nothing : {Y : Type 0} (p : Y → Bool) (f : ℕ → Y) (a n : ℕ) → ((k : ℕ) → a ≤ k → k < a + n → p (f k) ≡ false)
    → filter p (map f (range_with_len a n)) ≡ []
filter_nothing p f a zero fails = refl
filter_nothing p f a (suc n) fails = rw (fails a (omega arith) (omega arith))
    (filter_nothing p f (a + 1) n (λ k low high. fails k (omega (arith, low)) (omega (arith, high))))

-- filters whose tests agree on the elements
pub filter_same_on : {X : Type 0} (p q : X → Bool) (xs : List X)
    → ((k : ℕ) (d : X) → k < length xs → p (get_or xs k d) ≡ q (get_or xs k d)) → filter p xs ≡ filter q xs
filter_same_on p q [] agree = refl
filter_same_on p q (x ∷ xs) agree =
    rw (agree 0 x (omega arith), filter_same_on p q xs (λ k d h. agree (suc k) d (omega (arith, h)))) refl

pub filter-filter : {X : Type 0} (p q : X → Bool) (xs : List X) → filter p (filter q xs) ≡ filter (λ x. p x && q x) xs
filter-filter p q [] = refl
filter-filter p q (x ∷ xs) = of (q x) refl (p x) refl (filter-filter p q xs)
  where
    taken : (t : Bool) → (p x && q x) ≡ t
        → filter (λ y. p y && q y) (x ∷ xs) ≡ cond t (x ∷ filter (λ y. p y && q y) xs) (filter (λ y. p y && q y) xs)
    taken t is = ap (λ u. cond u (x ∷ filter (λ y. p y && q y) xs) (filter (λ y. p y && q y) xs)) is

    first : (t : Bool) → q x ≡ t → filter p (filter q (x ∷ xs)) ≡ filter p (cond t (x ∷ filter q xs) (filter q xs))
    first t is = ap (λ u. filter p (cond u (x ∷ filter q xs) (filter q xs))) is

    second : (t : Bool) → p x ≡ t → filter p (x ∷ filter q xs) ≡ cond t (x ∷ filter p (filter q xs)) (filter p (filter q xs))
    second t is = ap (λ u. cond u (x ∷ filter p (filter q xs)) (filter p (filter q xs))) is

    of : (t : Bool) → q x ≡ t → (u : Bool) → p x ≡ u → filter p (filter q xs) ≡ filter (λ y. p y && q y) xs
        → filter p (filter q (x ∷ xs)) ≡ filter (λ y. p y && q y) (x ∷ xs)
    of true passes true both rest = first true passes ∙ second true both ∙ ap (λ ys. x ∷ ys) rest
        ∙ sym (taken true (ap (λ v. v && q x) both ∙ passes))
    of true passes false fails rest = first true passes ∙ second false fails ∙ rest ∙ sym (taken false (ap (λ v. v && q x) fails))
    of false fails true other rest = first false fails ∙ rest ∙ sym (taken false (ap (λ v. v && q x) other ∙ fails))
    of false fails false other rest = first false fails ∙ rest ∙ sym (taken false (ap (λ v. v && q x) other))
