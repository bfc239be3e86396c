-- Each exit is a case of what `parse` answers for a text of digits.
use Rattle.std.proofs.Common.{◌<◌, ◌^◌, Ok, Err, arith, sym, ◌∙◌}
use Rattle.std.proofs.lemmas.Bool.Decides.{nat_tests}
use Rattle.macho_args.proofs.Digits.{number-no_digits, number-parsed}
use Rattle.macho_args.proofs.numbers.number_up_to.Goals as goal

pub returns-then-not-is_digits-clause-found : goal.returns-then-not-is_digits-clause-found
returns-then-not-is_digits-clause-found c =
    sym (number-no_digits c.args.most c.args.text.now (sym c.is_digits.ensures ∙ c.if-not-is_digits.true))

pub returns-in_default-clause-found : goal.returns-in_default-clause-found
returns-in_default-clause-found c =
    let small : c.args.most < 2 ^ 32 = omega arith in
    let digits = sym c.is_digits.ensures ∙ c.if-not-is_digits.false in
    sym (number-parsed {E = Unit {0}} c.args.most c.args.text.now (Err tt) small digits c.in_default.ensures.value.0)

pub returns-then-number-most-clause-found : goal.returns-then-number-most-clause-found
returns-then-number-most-clause-found c =
    let small : c.args.most < 2 ^ 32 = omega arith in
    let digits = sym c.is_digits.ensures ∙ c.if-not-is_digits.false in
    let read = Ok c.in-Ok.number in
    let parsed = number-parsed {E = Unit {0}} c.args.most c.args.text.now read small digits c.in-Ok.ensures.value.0 in
    grind (arith, nat_tests)

pub returns-else-number-most-clause-found : goal.returns-else-number-most-clause-found
returns-else-number-most-clause-found c =
    let small : c.args.most < 2 ^ 32 = omega arith in
    let digits = sym c.is_digits.ensures ∙ c.if-not-is_digits.false in
    let read = Ok c.in-Ok.number in
    let parsed = number-parsed {E = Unit {0}} c.args.most c.args.text.now read small digits c.in-Ok.ensures.value.0 in
    grind (arith, nat_tests)
