-- Rounding up to a multiple.
--
-- Write n + (k - 1) as q times k with a rest below k. Then q times k is the multiple that is answered: it is at most
-- n + (k - 1), and since the rest is at most k - 1 it is at least n. A multiple in front adds to the quotient alone, so what
-- is rounded behind it is rounded by itself. A multiple of a greater power of two is one of a lesser power.
use Rattle.std.proofs.Common.{◌≡◌, ℕ, ◌+◌, ◌*◌, ◌/◌, ◌%◌, ◌-◌, ◌^◌, ◌<◌, ◌≤◌, sym, ap, ◌∙◌, arith}
use Rattle.std.specs.Int.{next_multiple_of}
use Rattle.std.proofs.lemmas.Nat.{div-mul-add, mod-mul-add, div-add-mod', pow-add, pow_pos, one_shl}
use Rattle.std.proofs.Math.Nat.{add-mul, mod-lt, mul_assoc, pow-le-pow_right}
use Rattle.macho_bytes.specs.Numbers.{rounded_up}
use Rattle.macho_bytes.proofs.Rounding.{next_multiple_of-is}

-- what is answered is a multiple
pub rounded-multiple : (k n : ℕ) → 0 < k → rounded_up k n % k ≡ 0
rounded-multiple k n some = ap (λ (m : ℕ). m % k) (omega arith) ∙ mod-mul-add ((n + (k - 1)) / k) k 0 some

-- behind a multiple
pub rounded-shift : (k s n : ℕ) → 0 < k → s % k ≡ 0 → rounded_up k (s + n) ≡ s + rounded_up k n
rounded-shift k s n some whole =
    let q : ℕ = (n + (k - 1)) / k in
    let r : ℕ = (n + (k - 1)) % k in
    let left : q * k + r ≡ n + (k - 1) = div-add-mod' (n + (k - 1)) k in
    let front : s / k * k ≡ s = omega (arith, div-add-mod' s k) in
    let both : (s / k + q) * k ≡ s / k * k + q * k = add-mul (s / k) q k in
    let split : s + n + (k - 1) ≡ (s / k + q) * k + r = omega arith in
    let times : ℕ → ℕ = λ m. m * k in
    ap (λ (m : ℕ). m / k * k) split ∙ ap times (div-mul-add (s / k + q) k r (mod-lt (n + (k - 1)) some)) ∙ omega arith

-- a multiple stays
pub rounded-same : (k s : ℕ) → 0 < k → s % k ≡ 0 → rounded_up k s ≡ s
rounded-same k s some whole =
    let front : s / k * k ≡ s = omega (arith, div-add-mod' s k) in
    let split : s + (k - 1) ≡ s / k * k + (k - 1) = omega arith in
    ap (λ (m : ℕ). m / k * k) split ∙ ap (λ (m : ℕ). m * k) (div-mul-add (s / k) k (k - 1) (omega arith)) ∙ front

-- a multiple of a greater power of two is one of a lesser
pub multiple-weaker : (e f s : ℕ) → e ≤ f → s % 2 ^ f ≡ 0 → s % 2 ^ e ≡ 0
multiple-weaker e f s less whole =
    let power : 2 ^ f ≡ 2 ^ (f - e) * 2 ^ e = ap (λ (n : ℕ). 2 ^ n) (omega arith) ∙ pow-add 2 (f - e) e in
    let front : s / 2 ^ f * 2 ^ f ≡ s = omega (arith, div-add-mod' s (2 ^ f)) in
    let is : s ≡ s / 2 ^ f * 2 ^ (f - e) * 2 ^ e + 0
    = sym front ∙ ap (λ (n : ℕ). s / 2 ^ f * n) power ∙ sym (mul_assoc (s / 2 ^ f) (2 ^ (f - e)) (2 ^ e)) ∙ omega arith in
    ap (λ (n : ℕ). n % 2 ^ e) is ∙ mod-mul-add (s / 2 ^ f * 2 ^ (f - e)) (2 ^ e) 0 (pow_pos e)

-- std's word with a shift, as the code has it
pub shifted-is : (n e : ℕ) → e < 64 → next_multiple_of n (1 * 2 ^ e % 2 ^ 64) ≡ rounded_up (2 ^ e) n
shifted-is n e small = ap (next_multiple_of n) (one_shl e 64 small) ∙ next_multiple_of-is n (2 ^ e) (pow_pos e)

-- no alignment passes that of a page
pub pow-most : (e : ℕ) → e ≤ 14 → 2 ^ e ≤ 2 ^ 14
pow-most e small = pow-le-pow_right (omega arith) small
