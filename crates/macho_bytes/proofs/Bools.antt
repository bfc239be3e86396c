-- Conjunctions and disjunctions of tests, and tests of numbers, as the facts that they stand for.
--
-- A test is one of two: each lemma looks at its first one, and then computes.
use Rattle.std.proofs.Common.{◌≡◌, Bool, true, false, refl, ◌&&◌, ◌||◌, subst, not, ◌⊎◌, inl, inr, ℕ, ◌==◌, arith, ◌≢◌, if◌then◌else◌}
use Rattle.std.proofs.lemmas.Bool.Decides.{nat_tests}

-- a bool that is not false is true
pub not_false : (b : Bool) → (b ≡ false → ⊥) → b ≡ true
not_false true h = refl
not_false false h = absurd (h refl)

-- true is not false
pub true_or_false : (b : Bool) → b ≡ true → b ≡ false → ⊥
true_or_false b is isnt = cc

-- both parts of a conjunction, and back
pub and_left : (a b : Bool) → (a && b) ≡ true → a ≡ true
and_left true b h = refl
and_left false b h = h

pub and_right : (a b : Bool) → (a && b) ≡ true → b ≡ true
and_right true b h = h
and_right false b h = absurd (true_or_false false h refl)

pub and_both : (a b : Bool) → a ≡ true → b ≡ true → (a && b) ≡ true
and_both a b ha hb = rw (ha, hb) refl

-- the first part of a disjunction fails
pub or_right : (x y : Bool) → (x || y) ≡ true → x ≡ false → y ≡ true
or_right x y h fails = subst (λ t. (t || y) ≡ true) fails h

pub neither : (x y : Bool) → x ≡ false → y ≡ false → (x || y) ≡ false
neither x y hx hy = rw (hx, hy) refl

pub not_true : (x : Bool) → x ≡ true → not x ≡ false
not_true x h = rw h refl

-- a disjunction, by its parts
pub either : (x y : Bool) → (x || y) ≡ true → (x ≡ true) ⊎ (y ≡ true)
either true y h = inl refl
either false y h = inr h

pub or_first : (x y : Bool) → x ≡ true → (x || y) ≡ true
or_first x y h = rw h refl

pub or_second : (x y : Bool) → y ≡ true → (x || y) ≡ true
or_second true y h = refl
or_second false y h = h

-- tests of numbers
pub is_equal : (m n : ℕ) → (m == n) ≡ true → m ≡ n
is_equal m n h = grind (arith, nat_tests)

pub equal_is : (m n : ℕ) → m ≡ n → (m == n) ≡ true
equal_is m n h = grind (arith, nat_tests)

pub unequal_is : (m n : ℕ) → m ≢ n → (m == n) ≡ false
unequal_is m n h = grind (arith, nat_tests)

pub same_number : (n : ℕ) → not (n == n) ≡ false
same_number n = grind (arith, nat_tests)

pub other_number : (m n : ℕ) → m ≢ n → not (m == n) ≡ true
other_number m n h = grind (arith, nat_tests)

pub or_swap : (a b c : Bool) → (a || (b || c)) ≡ (b || (a || c))
or_swap true true c = refl
or_swap true false c = refl
or_swap false b c = refl

pub false_of_not : (b : Bool) → not b ≡ true → b ≡ false
false_of_not true h = absurd (cc)
false_of_not false h = refl

pub or_else : (n e : Bool) → (not n || e) ≡ true → n ≡ true → e ≡ true
or_else true e h is = h
or_else false e h is = absurd (let no : false ≡ true = is in cc)

-- one case of a chain of tests
pub pick : (t a b : Bool) → t ≡ true → (if t then a else b) ≡ true → a ≡ true
pick true a b is h = h
pick false a b is h = absurd (cc)

pub skip : (t a b : Bool) → t ≡ false → (if t then a else b) ≡ true → b ≡ true
skip true a b is h = absurd (cc)
skip false a b is h = h

pub and_left_false : (t u : Bool) → t ≡ false → (t && u) ≡ false
and_left_false t u e = rw e refl

pub and_group : (a b c : Bool) → (a && (b && c)) ≡ (a && b && c)
and_group true b c = refl
and_group false b c = refl

pub or_holds : (t : Bool) (f : Bool) → t ≡ true → (not t || f) ≡ true → f ≡ true
or_holds true f is h = h
or_holds false f is h = absurd (let no : false ≡ true = is in cc)

pub both_parts : (x y : Bool) → (x && y) ≡ true → (x ≡ true) × (y ≡ true)
both_parts true true e = (refl, refl)
both_parts true false e = cc
both_parts false y e = cc
