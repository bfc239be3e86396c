-- Whether a part begins at a multiple of its alignment.
--
-- Where the alignment passes every address, only 0 is a multiple of it.
use Rattle.std.proofs.Common.{◌^◌, ◌==◌, ◌≤◌, sym, ap, arith}
use Rattle.std.proofs.Math.Nat.{mod-eq_of_lt, pow-le-pow_right}
use Rattle.macho_placement_rules.proofs.parts.is_aligned.Goals as goal

pub returns-else-part-lt128 : goal.returns-else-part-lt128
returns-else-part-lt128 c =
    let large : 2 ^ 128 ≤ 2 ^ c.args.part.now.exponent
    = pow-le-pow_right {n = 2} (omega arith) {i = 128} {j = c.args.part.now.exponent} (omega arith) in
    ap (λ n. n == 0) (sym (mod-eq_of_lt {n = c.args.part.now.start} {m = 2 ^ c.args.part.now.exponent} (omega (arith, large))))
