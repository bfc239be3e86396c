use Rattle.std.proofs.Common.{◌≡◌, ℕ, ◌*◌, ◌^◌, ◌%◌, ◌<◌, ap, ◌∙◌, arith}
use Rattle.std.specs.Int.{next_multiple_of}
use Rattle.std.proofs.lemmas.Nat.{pow_pos}
use Rattle.macho_bytes.specs.Numbers.{rounded_up}
use Rattle.macho_bytes.proofs.Rounding.{next_multiple_of-is}
use Rattle.macho_object.proofs.Powers.{shifted}
use Rattle.macho_object.proofs.Ends.{there_if_below}
use Rattle.macho_object.proofs.symbol_rules.rounds.Goals as goal

rounds_is : (n e : ℕ) → e < 16 → next_multiple_of n (1 * 2 ^ e % 2 ^ 64) ≡ rounded_up (2 ^ e) n
rounds_is n e small = ap (next_multiple_of n) (shifted e small) ∙ next_multiple_of-is n (2 ^ e) (pow_pos e)

some_unit : (e : ℕ) → e < 16 → 0 < 1 * 2 ^ e % 2 ^ 64
some_unit e small = omega (arith, shifted e small, pow_pos e)

pub returns : goal.returns
returns c =
    c.is_some.ensures
    ∙ there_if_below c.checked_next_multiple_of.result _ _ (2 ^ 64) (rounded_up (2 ^ c.args.exponent) c.args.number)
    c.checked_next_multiple_of.ensures (some_unit c.args.exponent c.requires) (rounds_is c.args.number c.args.exponent c.requires)
