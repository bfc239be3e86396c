use Rattle.std.proofs.Common.{◌≡◌, ◌++◌}
use Rattle.std.proofs.lemmas.Result.{err_from_is_err_and}
use Rattle.macho_stub_lines.specs.Lists.{texts, names_of, list_part, with_front}
use Rattle.macho_stub_lines.specs.steps.Lists.{token_of}
use Rattle.macho_stub_lines.proofs.Bind.{same_ok}
use Rattle.macho_stub_lines.proofs.Parts.{some_left, none_left, goes_on, ends_at_token, ends_at_order, is_done}
use Rattle.macho_stub_lines.proofs.list.list_part.Goals as goal

pub returns-in_err-token : goal.returns-in_err-token
returns-in_err-token c =
    let p = err_from_is_err_and c.from_residual.result c.from_residual.ensures.1 in
    let total = with_front (texts c.args.part.names.items) (list_part c.args.line c.args.part.expect 0 c.args.text.now) in
    rw (p.1, p.2) (ends_at_token c.in_err-token.field-0.0 (texts c.loop-rest.names.items) c.args.line c.loop-rest.expect
    c.loop-rest.rest.now total (some_left _ _ c.is_empty.ensures c.loop-rest-test.true) c.in_err-token.ensures.value
    c.loop-rest.invariant.1)

pub returns-in_err-expect : goal.returns-in_err-expect
returns-in_err-expect c =
    let p = err_from_is_err_and c.from_residual-in_err-expect.result c.from_residual-in_err-expect.ensures.1 in
    let total = with_front (texts c.args.part.names.items) (list_part c.args.line c.args.part.expect 0 c.args.text.now) in
    rw (p.1, p.2) (ends_at_order c.in_err-expect.field-0.0 (texts c.loop-rest.names.items) c.args.line c.loop-rest.expect
    c.loop-rest.rest.now (token_of c.in_ok-token.token) total (some_left _ _ c.is_empty.ensures c.loop-rest-test.true)
    c.in_ok-token.ensures.value c.in_err-expect.ensures c.loop-rest.invariant.1)

pub loop-rest-preserved : goal.loop-rest-preserved
loop-rest-preserved c =
    let total = with_front (texts c.args.part.names.items) (list_part c.args.line c.args.part.expect 0 c.args.text.now) in
    let more = goes_on (texts c.loop-rest.names.items) c.args.line c.loop-rest.expect c.in_ok-expect.expect c.loop-rest.rest.now
    (token_of c.in_ok-token.token) total (some_left _ _ c.is_empty.ensures c.loop-rest-test.true) c.in_ok-token.ensures.some
    c.in_ok-token.ensures.value c.in_ok-expect.ensures c.loop-rest.invariant.1 in
    let e : texts c.loop-rest.names.items ++ names_of (token_of c.in_ok-token.token)
    ≡ texts c.in_ok-names.names.items = same_ok _ _ c.in_ok-names.ensures in
    (c.after-rest.utf8, rw (← e, c.after-rest.ensures) more)

pub returns : goal.returns
returns c =
    let total = with_front (texts c.args.part.names.items) (list_part c.args.line c.args.part.expect 0 c.args.text.now) in
    is_done (texts c.loop-rest.names.items) c.args.line c.loop-rest.expect c.loop-rest.rest.now total
    (none_left _ _ c.is_empty.ensures c.loop-rest-test.false) c.loop-rest.invariant.1
