-- A command of the list has been come to, or one more has been passed.
use Rattle.std.proofs.Common.{◌<◌, sym, ap, subst, ◌∙◌, arith}
use Rattle.std.specs.Prelude.{unwrap_or}
use Rattle.macho_model.specs.Commands.{header_of}
use Rattle.macho_loader.specs.steps.Cursors.{IsStep}
use Rattle.macho_loader.proofs.Cursors.{cursor, here_nth, few_before, step_counted, step_passed, at_end}
use Rattle.macho_loader.proofs.cursor.step_from.Goals as goal

pub overflow_add-next-then-is_listed : goal.overflow_add-next-then-is_listed
overflow_add-next-then-is_listed c =
    let count = c.count_of-index-end.ensures in
    let most = c.count_of-index-end.type_inv in
    let test = c.loop-index-test.true in
    let at = cursor c.loop-index.index c.loop-index.place c.args.from.number in
    let nth = here_nth c.args.list c.args.bytes.now at (omega (arith, count, test)) c.loop-index.invariant.0
    (sym c.is_listed.ensures ∙ c.if-is_listed.true) in
    let few = few_before c.args.list c.args.bytes.now c.args.from.number c.loop-index.place nth in
    omega (arith, few, count, most)

pub returns-then-is_listed-clause-found : goal.returns-then-is_listed-clause-found
returns-then-is_listed-clause-found c s is =
    let count = c.count_of-index-end.ensures in
    let test = c.loop-index-test.true in
    let size = c.u32_from.type_inv in
    let behind = c.loop-index.invariant.1 in
    let b = c.args.bytes.now in
    let at = cursor c.loop-index.index c.loop-index.place c.args.from.number in
    let here = sym c.is_listed.ensures ∙ c.if-is_listed.true in
    let within : c.loop-index.index < (header_of b).ncmds = omega (arith, count, test) in
    subst (λ x. IsStep c.args.list b c.args.from x) (ap (λ o. unwrap_or o s) is) (record {
      nth = here_nth c.args.list b at within c.loop-index.invariant.0 here;
      next = step_counted c.args.list b at c.u32_from.result within c.loop-index.invariant.0 c.u32_from.ensures (omega (arith, size)) here;
      more = omega arith;
      on = omega (arith, behind);
    })

pub loop-index-preserved : goal.loop-index-preserved
loop-index-preserved c =
    let count = c.count_of-index-end.ensures in
    let test = c.loop-index-test.true in
    let size = c.u32_from.type_inv in
    let behind = c.loop-index.invariant.1 in
    let at = cursor c.loop-index.index c.loop-index.place c.args.from.number in (
      step_passed c.args.list c.args.bytes.now at c.u32_from.result (omega (arith, count, test)) c.loop-index.invariant.0
          c.u32_from.ensures (omega (arith, size)) (sym c.is_listed.ensures ∙ c.if-is_listed.false),
      omega (arith, behind),
    )

pub returns-clause-only : goal.returns-clause-only
returns-clause-only c _ =
    let count = c.count_of-index-end.ensures in
    let past = c.loop-index-test.false in
    at_end c.args.list c.args.bytes.now (cursor c.loop-index.index c.loop-index.place c.args.from.number) (omega (arith, count, past))
    c.loop-index.invariant.0
