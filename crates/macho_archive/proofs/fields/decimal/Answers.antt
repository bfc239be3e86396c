-- The value of the digits so far is small, and one digit more is one step of the value.
use Rattle.std.proofs.Common.{ℕ, ◌+◌, ◌-◌, ◌*◌, arith, sym, ap, ◌∙◌, get_or}
use Rattle.macho_archive.proofs.Digits.{all_digits, digit_more, digits_small}
use Rattle.macho_archive.proofs.fields.decimal.Goals as goal

pub overflow_mul-value : goal.overflow_mul-value
overflow_mul-value c =
    let all = all_digits c.args.text.now (sym c.is_digits.ensures ∙ c.if-not-is_digits.false) in
    omega (arith, c.loop-digit.invariant, digits_small c.args.text.now c.loop-digit.digit-index all c.requires)

pub overflow_add-value : goal.overflow_add-value
overflow_add-value c =
    let all = all_digits c.args.text.now (sym c.is_digits.ensures ∙ c.if-not-is_digits.false) in
    let more = digit_more c.args.text.now c.loop-digit.digit-index all c.loop-digit-test.true in
    omega (arith, c.loop-digit.invariant, more, digits_small c.args.text.now (c.loop-digit.digit-index + 1) all c.requires)

pub loop-digit-preserved : goal.loop-digit-preserved
loop-digit-preserved c =
    let all = all_digits c.args.text.now (sym c.is_digits.ensures ∙ c.if-not-is_digits.false) in
    ap (λ (v : ℕ). v * 10 + (get_or c.args.text.now c.loop-digit.digit-index 0 - 48)) c.loop-digit.invariant
    ∙ digit_more c.args.text.now c.loop-digit.digit-index all c.loop-digit-test.true
