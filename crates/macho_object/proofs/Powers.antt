-- Powers of two that a shift makes.
use Rattle.std.proofs.Common.{◌≡◌, ℕ, ◌*◌, ◌^◌, ◌%◌, ◌<◌, ◌∙◌, arith}
use Rattle.std.proofs.Math.Nat.{mod-eq_of_lt}
use Rattle.std.proofs.Math.Pow.{pow-lt}

-- a shift by less than 16 loses nothing
pub shifted : (e : ℕ) → e < 16 → 1 * 2 ^ e % 2 ^ 64 ≡ 2 ^ e
shifted e small =
    let below : 2 ^ e < 2 ^ 16 = pow-lt small in
    let fits : 1 * 2 ^ e < 2 ^ 64 = omega arith in
    mod-eq_of_lt fits ∙ omega arith
