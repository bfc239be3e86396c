use Rattle.std.proofs.Common.{◌≡◌, ◌<◌, ◌*◌, ◌^◌, ◌%◌, ℕ, ap, ◌∙◌, arith}
use Rattle.std.specs.Int.{next_multiple_of}
use Rattle.std.proofs.Math.Nat.{mod-eq_of_lt}
use Rattle.std.proofs.lemmas.Nat.{pow_pos}
use Rattle.std.proofs.Math.Pow.{pow-lt}
use Rattle.macho_bytes.specs.Numbers.{rounded_up}
use Rattle.macho_bytes.proofs.Rounding.{next_multiple_of-is}
use Rattle.macho_records.proofs.symbols.rounded_up.Goals as goal

-- a shift by less than 16 loses nothing
unit : (e : ℕ) → e < 16 → 1 * 2 ^ e % 2 ^ 64 ≡ 2 ^ e
unit e small =
    let below : 2 ^ e < 2 ^ 16 = pow-lt small in
    let fits : 1 * 2 ^ e < 2 ^ 64 = omega arith in
    mod-eq_of_lt fits ∙ omega arith

rounds : (n e : ℕ) → e < 16 → next_multiple_of n (1 * 2 ^ e % 2 ^ 64) ≡ rounded_up (2 ^ e) n
rounds n e small = ap (next_multiple_of n) (unit e small) ∙ next_multiple_of-is n (2 ^ e) (pow_pos e)

pub next_multiple_of-requires-clause-fits : goal.next_multiple_of-requires-clause-fits
next_multiple_of-requires-clause-fits c = let same = rounds c.args.number c.args.exponent c.requires.small in omega arith

pub returns : goal.returns
returns c = c.next_multiple_of.ensures.value ∙ rounds c.args.number c.args.exponent c.requires.small
