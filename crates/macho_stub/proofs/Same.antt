-- Lists that are compared place by place, and names that are sought, as loops do: what is left behind i places
-- that agree gives the whole answer, and one place that differs, or one name that is found, settles it.
-- The loop is at some place i, with an invariant on what is left from there on. The lemmas are its step, where the two
-- elements agree or a name isn't the one that is sought, and its ways out: a place that differs, a name that is found, and
-- the end of the lists, which are as long. They are by recursion on the lists and the place together.
use Rattle.std.proofs.Common.{◌≡◌, ℕ, zero, suc, ◌<◌, ◌≤◌, Bool, true, false, ◌&&◌, ◌||◌, not, List, [], ◌∷◌, length, get_or, drop, map, refl, sym, ap, ◌∙◌, arith}
use Rattle.std.specs.List.{list_any}
use Rattle.macho_stub.specs.steps.Checks.{all_same}

-- one place more that agrees
pub same_more : {A X : Type 0} (same : X → X → Bool) (view : A → X) (xs ys : List A) (i : ℕ) (d e : A) (total : Bool) → i < length xs
    → i < length ys → same (view (get_or xs i d)) (view (get_or ys i e)) ≡ true
    → all_same same (drop i (map view xs)) (drop i (map view ys)) ≡ total
    → all_same same (drop (suc i) (map view xs)) (drop (suc i) (map view ys)) ≡ total
unfolding all_same
same_more same view [] ys i d e total lx ly h so_far = absurd (omega arith)
same_more same view (x ∷ xs) [] i d e total lx ly h so_far = absurd (omega arith)
same_more same view (x ∷ xs) (y ∷ ys) zero d e total lx ly h so_far = sym (ap (λ b. b && all_same same (map view xs) (map view ys)) h)
    ∙ so_far
same_more same view (x ∷ xs) (y ∷ ys) (suc i) d e total lx ly h so_far = same_more same view xs ys i d e total (omega arith) (omega arith)
    h so_far

-- a place that differs
pub differs : {A X : Type 0} (same : X → X → Bool) (view : A → X) (xs ys : List A) (i : ℕ) (d e : A) (total : Bool) → i < length xs
    → i < length ys → same (view (get_or xs i d)) (view (get_or ys i e)) ≡ false
    → all_same same (drop i (map view xs)) (drop i (map view ys)) ≡ total → false ≡ total
unfolding all_same
differs same view [] ys i d e total lx ly h so_far = absurd (omega arith)
differs same view (x ∷ xs) [] i d e total lx ly h so_far = absurd (omega arith)
differs same view (x ∷ xs) (y ∷ ys) zero d e total lx ly h so_far = sym (ap (λ b. b && all_same same (map view xs) (map view ys)) h)
    ∙ so_far
differs same view (x ∷ xs) (y ∷ ys) (suc i) d e total lx ly h so_far = differs same view xs ys i d e total (omega arith) (omega arith) h
    so_far

-- every place agrees
pub all_agree : {A X : Type 0} (same : X → X → Bool) (view : A → X) (xs ys : List A) (i : ℕ) (total : Bool) → length xs ≤ i → length xs
    ≡ length ys
    → all_same same (drop i (map view xs)) (drop i (map view ys)) ≡ total → true ≡ total
unfolding all_same
all_agree same view [] [] zero total past eq so_far = so_far
all_agree same view [] [] (suc i) total past eq so_far = so_far
all_agree same view [] (y ∷ ys) i total past eq so_far = absurd (omega arith)
all_agree same view (x ∷ xs) [] i total past eq so_far = absurd (omega arith)
all_agree same view (x ∷ xs) (y ∷ ys) zero total past eq so_far = absurd (omega arith)
all_agree same view (x ∷ xs) (y ∷ ys) (suc i) total past eq so_far = all_agree same view xs ys i total (omega arith) (omega arith) so_far

-- one list is longer
pub other_length : {A X : Type 0} (same : X → X → Bool) (view : A → X) (xs ys : List A) → (length xs ≡ length ys → ⊥)
    → all_same same (map view xs) (map view ys) ≡ false
unfolding all_same
other_length same view [] [] ne = absurd (ne refl)
other_length same view [] (y ∷ ys) ne = refl
other_length same view (x ∷ xs) [] ne = refl
other_length same view (x ∷ xs) (y ∷ ys) ne = shorter (same (view x) (view y)) (other_length same view xs ys (λ eq. ne (omega arith)))
  where
    shorter : (b : Bool) {r : Bool} → r ≡ false → (b && r) ≡ false
    shorter true h = h
    shorter false h = refl

-- a name that isn't the one that is sought
pub sought_more : {A X : Type 0} (p : X → Bool) (view : A → X) (xs : List A) (i : ℕ) (d : A) (total : Bool) → i < length xs
    → p (view (get_or xs i d)) ≡ false
    → list_any p (drop i (map view xs)) ≡ total → list_any p (drop (suc i) (map view xs)) ≡ total
sought_more p view [] i d total lt h so_far = absurd (omega arith)
sought_more p view (x ∷ xs) zero d total lt h so_far = sym (ap (λ b. b || list_any p (map view xs)) h) ∙ so_far
sought_more p view (x ∷ xs) (suc i) d total lt h so_far = sought_more p view xs i d total (omega arith) h so_far

-- the name that is sought
pub found_at : {A X : Type 0} (p : X → Bool) (view : A → X) (xs : List A) (i : ℕ) (d : A) (total : Bool) → i < length xs
    → p (view (get_or xs i d)) ≡ true
    → list_any p (drop i (map view xs)) ≡ total → true ≡ total
found_at p view [] i d total lt h so_far = absurd (omega arith)
found_at p view (x ∷ xs) zero d total lt h so_far = sym (ap (λ b. b || list_any p (map view xs)) h) ∙ so_far
found_at p view (x ∷ xs) (suc i) d total lt h so_far = found_at p view xs i d total (omega arith) h so_far

-- what a negated test says
pub not_true : (b : Bool) → true ≡ not b → b ≡ false
not_true true h = absurd cc
not_true false h = refl

-- and where the negation is false
pub not_false : (b : Bool) → false ≡ not b → b ≡ true
not_false true h = refl
not_false false h = absurd cc

-- what two elements that were read say of the two places
pub at_places : {A X : Type 0} (same : X → X → Bool) (view : A → X) (xs ys : List A) (i : ℕ) (x y : A) (b : Bool) → x ≡ get_or xs i x → y
    ≡ get_or ys i y → same (view x) (view y) ≡ b → same (view (get_or xs i x)) (view (get_or ys i y)) ≡ b
at_places same view xs ys i x y b ex ey h = sym (ap (λ z. same (view z) (view (get_or ys i y))) ex)
    ∙ sym (ap (λ z. same (view x) (view z)) ey) ∙ h
