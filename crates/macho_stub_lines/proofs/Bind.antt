-- Readings that did not fail, and tests by what they decide.
-- A reading is a chain of steps and of choices by tests. Where the whole gives a value, each step gave one (`bind_ok`),
-- and a choice took the way that doesn't fail (`not_broken`, `not_broken_else`), so its test is known. That a fault and a
-- value are two things, and that a value is given once, is by computing (`no_ok`, `same_ok`).
-- The tests themselves compare bytes and numbers; below each is led to the equation that it decides, and back.
use Rattle.std.proofs.Common.{◌≡◌, ◌≢◌, ℕ, Bool, true, false, cond, eqb, ltb, ◌<◌, ◌≤◌, List, Ok, Err, refl, arith, ◌⊎◌, inl, inr}
use Rattle.std.specs.Str.{bytes_eq}
use Rattle.std.proofs.lemmas.Bool.Decides.{nat_tests}
use Rattle.std.proofs.lemmas.Slice.Eq.{bytes_eq-Decides}
use Rattle.macho_stub_lines.specs.declared.fault.StubRule.{StubRule}
use Rattle.macho_stub_lines.specs.Faults.{Reading, ◌>>=◌, broken}
use Rattle.macho_bytes.proofs.Comparing.{same_bytes}

-- the value of a step
pub bind_ok : {A B : Type 0} (r : Reading A) (f : A → Reading B) (y : B) → (r >>= f) ≡ Ok y → (x : A) × (r ≡ Ok x) × (f x ≡ Ok y)
bind_ok (Ok x) f y e = (x, refl, e)
bind_ok (Err d) f y e = absurd cc

-- which way a choice went
pub chosen : {A : Type 0} (b : Bool) (x y z : A) → cond b x y ≡ z → ((b ≡ true) × (x ≡ z)) ⊎ ((b ≡ false) × (y ≡ z))
chosen true x y z e = inl (refl, e)
chosen false x y z e = inr (refl, e)

-- a choice of two ways that are one
pub one_way : {A : Type 0} (b : Bool) (x : A) → cond b x x ≡ x
one_way true x = refl
one_way false x = refl

-- a choice whose first way fails
pub not_broken : {A : Type 0} (b : Bool) (line : ℕ) (rule : StubRule) (r : Reading A) (y : A) → cond b (broken line rule) r ≡ Ok y
    → (b ≡ false) × (r ≡ Ok y)
not_broken true line rule r y e = absurd cc
not_broken false line rule r y e = (refl, e)

-- a choice whose second way fails
pub not_broken_else : {A : Type 0} (b : Bool) (line : ℕ) (rule : StubRule) (r : Reading A) (y : A) → cond b r (broken line rule) ≡ Ok y
    → (b ≡ true) × (r ≡ Ok y)
not_broken_else true line rule r y e = (refl, e)
not_broken_else false line rule r y e = absurd cc

-- a value that is read
abbrev pub done : {A : Type 0} → A → Reading A
done x = Ok x

-- what a reading gives is one value
pub same_ok : {A : Type 0} (x y : A) → done x ≡ done y → x ≡ y
same_ok x y e = cc

-- what fails gives nothing
pub no_ok : {A : Type 0} (line : ℕ) (rule : StubRule) (y : A) → broken line rule ≡ Ok y → ⊥
no_ok line rule y e = cc

-- and the same bytes pass the test
pub bytes_same : (xs ys : List ℕ) → xs ≡ ys → bytes_eq xs ys ≡ true
bytes_same xs ys e = (bytes_eq-Decides xs ys).1 e

-- bytes that fail the test differ
pub other_bytes : (xs ys : List ℕ) → bytes_eq xs ys ≡ false → xs ≢ ys
other_bytes xs ys e = λ is. let t = bytes_same xs ys is in cc

-- and bytes that differ fail it
pub bytes_differ : (xs ys : List ℕ) → xs ≢ ys → bytes_eq xs ys ≡ false
bytes_differ xs ys ne = by_test (bytes_eq xs ys) refl
  where
    by_test : (t : Bool) → bytes_eq xs ys ≡ t → bytes_eq xs ys ≡ false
    by_test true e = absurd (ne (same_bytes xs ys e))
    by_test false e = e

-- numbers that pass the test for equality are equal
pub eq_at : (m n : ℕ) → eqb m n ≡ true → m ≡ n
eq_at m n e = grind (arith, nat_tests)

-- those that fail it are not
pub ne_at : (m n : ℕ) → eqb m n ≡ false → m ≢ n
ne_at m n e = λ h. grind (arith, nat_tests)

-- equal numbers pass it
pub eq_true : (m n : ℕ) → m ≡ n → eqb m n ≡ true
eq_true m n e = grind (arith, nat_tests)

-- and others fail it
pub eq_false : (m n : ℕ) → m ≢ n → eqb m n ≡ false
eq_false m n e = grind (arith, nat_tests)

-- a number above 0 is not 0
pub not_zero : (n : ℕ) → 0 < n → eqb n 0 ≡ false
not_zero n h = eq_false n 0 (omega arith)
