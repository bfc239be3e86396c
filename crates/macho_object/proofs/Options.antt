-- An answer that is there exactly where a test passes.
use Rattle.std.proofs.Common.{◌≡◌, Bool, true, false, if◌then◌else◌, Some, None, refl}

-- where it is there, the test passed, and the answer is what it was to be
pub some_if : {X : Type 0} → (t : Bool) (x y : X) → Some x ≡ (if t then Some y else None) → (t ≡ true) × (x ≡ y)
some_if true x y is = (refl, cc)
some_if false x y is = absurd (cc)

-- where it is not there, the test failed
pub none_if : {X : Type 0} → (t : Bool) (y : X) → None ≡ (if t then Some y else None) → t ≡ false
none_if true y is = absurd (cc)
none_if false y is = refl
