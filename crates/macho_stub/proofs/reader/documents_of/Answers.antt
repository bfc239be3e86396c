use Rattle.std.proofs.Common.{◌≤◌, length, arith}
use Rattle.std.specs.Str.Lines.{lines}
use Rattle.std.proofs.lemmas.Iterator.Consumers.{YieldsList-turn, YieldsList-end}
use Rattle.std.proofs.lemmas.Iterator.Splits.{YieldsList-from_lines}
use Rattle.std.proofs.lemmas.List.{length_push}
use Rattle.std.proofs.lemmas.Result.{err_from_is_err_and}
use Rattle.macho_stub.specs.steps.Reader.{state_of, start, lines_from, documents_of}
use Rattle.macho_stub.proofs.Walk.{one_line_more, fault_at_line, no_line_more}
use Rattle.macho_stub.proofs.reader.documents_of.Goals as goal

pub returns-in_err-state : goal.returns-in_err-state
unfolding documents_of
returns-in_err-state c =
    let p = err_from_is_err_and c.from_residual.result c.from_residual.ensures.1 in
    let t = YieldsList-turn (YieldsList-from_lines c.args.text.now cc) c.loop-line.yielded _ c.loop-line.yielded_by _ _ c.in-Some.line
    c.in-Some.is c.next.ensures.steps in
    let at = rw (← c.loop-line.invariant.number) at t in
    rw (p.1, p.2) (fault_at_line c.in_err-state.field-0.0 (state_of c.loop-line.state) (lines c.args.text.now) c.loop-line.number
    c.in-Some.line.now (lines_from start 1 (lines c.args.text.now)) at c.in_err-state.ensures c.loop-line.invariant.so_far)

pub loop-line-preserved : goal.loop-line-preserved
loop-line-preserved c =
    let t = YieldsList-turn (YieldsList-from_lines c.args.text.now cc) c.loop-line.yielded _ c.loop-line.yielded_by _ _ c.in-Some.line
    c.in-Some.is c.next.ensures.steps in
    let at = rw (← c.loop-line.invariant.number) at t in
    record {
      can_next = tt;
      is_finite = tt;
      counted = omega (arith, (c.in-Some.ensures.goes.on tt).2);
      number = omega (arith, length_push c.loop-line.yielded c.in-Some.line);
      so_far = one_line_more (state_of c.loop-line.state) (state_of c.in_ok-state.state) (lines c.args.text.now) c.loop-line.number
          c.in-Some.line.now (lines_from start 1 (lines c.args.text.now)) at c.in_ok-state.ensures c.loop-line.invariant.so_far;
    }

pub returns : goal.returns
unfolding documents_of
returns c =
    let t = YieldsList-end (YieldsList-from_lines c.args.text.now cc) c.loop-line.yielded _ c.loop-line.yielded_by _ _ c.in-None.is
    c.next.ensures.steps in
    let past : length (lines c.args.text.now) ≤ c.loop-line.number = omega (arith, t.1) in
    rw (← no_line_more (state_of c.loop-line.state) (lines c.args.text.now) c.loop-line.number
    (lines_from start 1 (lines c.args.text.now)) past c.loop-line.invariant.so_far) c.ended.ensures
