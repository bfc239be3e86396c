-- Rounding up, as definitions and as std's numbers do it.
--
-- Write n as q times `to` with a rest r below `to`. Where r is 0, n is a multiple already and both give n. Else both
-- give (q + 1) times `to`: n plus `to - 1` lies from there up to below the next multiple, so its quotient is q + 1.
use Rattle.std.proofs.Common.{◌≡◌, ℕ, ◌+◌, ◌*◌, ◌/◌, ◌%◌, ◌-◌, ◌<◌, sym, ap, ◌∙◌, arith, inl, inr, ◌≤◌}
use Rattle.std.specs.Int.{next_multiple_of}
use Rattle.std.proofs.lemmas.Bool.{cases_lt}
use Rattle.std.proofs.lemmas.Nat.{div-mul-add, div-add-mod'}
use Rattle.std.proofs.Math.Nat.{add-mul, mod-eq_of_lt, mod-lt, mod_self}
use Rattle.macho_bytes.specs.Numbers.{rounded_up}

-- a quotient and a rest above 0, rounded up
above : (q to r : ℕ) → 0 < r → r < to → rounded_up to (q * to + r) ≡ q * to + to
above q to r some below =
    let next : (q + 1) * to ≡ q * to + to = add-mul q 1 to ∙ omega arith in
    let split : q * to + r + (to - 1) ≡ (q + 1) * to + (r - 1) = omega (arith, next) in
    ap (λ (n : ℕ). n / to * to) split ∙ ap (λ (n : ℕ). n * to) (div-mul-add (q + 1) to (r - 1) (omega arith)) ∙ next

-- a multiple, rounded up
same : (q to : ℕ) → 0 < to → rounded_up to (q * to) ≡ q * to
same q to some = ap (λ (n : ℕ). n * to) (div-mul-add q to (to - 1) (omega arith))

-- std's word and the definition agree
pub next_multiple_of-is : (n to : ℕ) → 0 < to → next_multiple_of n to ≡ rounded_up to n
next_multiple_of-is n to some =
    let parts : n / to * to + n % to ≡ n = div-add-mod' n to in
    let below : n % to < to = mod-lt n some in
    elim (cases_lt 0 (n % to)) [
      | inl rest ↦
          let left : (to - n % to) % to ≡ to - n % to = mod-eq_of_lt (omega arith) in
          omega (arith, left) ∙ sym (above (n / to) to (n % to) rest below) ∙ ap (rounded_up to) parts
      | inr none ↦
          let whole : n / to * to ≡ n = omega arith in
          let left : (to - n % to) % to ≡ 0 = ap (λ (k : ℕ). k % to) (omega arith) ∙ mod_self to in
          omega (arith, left) ∙ sym (same (n / to) to some) ∙ ap (rounded_up to) whole
    ]

-- nothing is rounded down
pub rounded-above : (k n : ℕ) → 0 < k → n ≤ rounded_up k n
rounded-above k n some = omega (arith, div-add-mod' (n + (k - 1)) k, mod-lt (n + (k - 1)) some)

-- rounding costs less than the alignment
pub rounded-near : (k n : ℕ) → 0 < k → rounded_up k n ≤ n + (k - 1)
rounded-near k n some = omega (arith, div-add-mod' (n + (k - 1)) k)
