-- The parts are pushed one behind the other; a part that is refused ends the text.
use Rattle.std.proofs.Common.{refl}
use Rattle.std.proofs.lemmas.Result.{err_from_is_err_and}
use Rattle.macho_inspect.proofs.Texts.{first-refused, both-pushed, pushed-as, report-is}
use Rattle.macho_inspect.proofs.lines.push_report.Goals as goal

pub returns : goal.returns
returns g c =
    pushed-as _ _ _ _ _ _ c.push_lines-3.result
    (report-is c.args.report.now c.deref.result.now c.deref-2.result.now c.deref-3.result.now c.deref-4.result.now c.deref.ensures.value
    c.deref-2.ensures.value c.deref-3.ensures.value c.deref-4.ensures.value)
    (both-pushed _ _ _ _ _ _ _ _ _ c.in_ok-push_lines.ensures.done c.in_ok-push_lines.ensures.counted
    (both-pushed _ _ _ _ _ _ _ _ _ c.in_ok-push_libraries.ensures.done c.in_ok-push_libraries.ensures.counted
    (both-pushed _ _ _ _ _ _ _ _ _ c.in_ok-push_lines-2.ensures.done c.in_ok-push_lines-2.ensures.counted
    (both-pushed _ _ _ _ _ _ _ _ _ c.in_ok-push_exports.ensures.done c.in_ok-push_exports.ensures.counted c.push_lines-3.ensures))))

pub returns-in_err-push_lines : goal.returns-in_err-push_lines
returns-in_err-push_lines g c =
    let p = err_from_is_err_and c.from_residual.result c.from_residual.ensures.1 in
    let r = c.args.report.now in
    pushed-as _ _ _ _ _ _ c.from_residual.result
    (report-is r c.deref.result.now r.libraries.items r.imports.items r.fixups.items c.deref.ensures.value refl refl refl)
    (first-refused _ _ _ _ _ _ c.from_residual.result p.0 p.1 c.in_err-push_lines.ensures.left c.in_err-push_lines.ensures.why
    c.in_err-push_lines.ensures.counted)

pub returns-in_err-push_libraries : goal.returns-in_err-push_libraries
returns-in_err-push_libraries g c =
    let again = c.from_residual-in_err-push_libraries in
    let p = err_from_is_err_and again.result again.ensures.1 in
    let r = c.args.report.now in
    pushed-as _ _ _ _ _ _ again.result
    (report-is r c.deref.result.now c.deref-2.result.now r.imports.items r.fixups.items c.deref.ensures.value c.deref-2.ensures.value refl
    refl)
    (both-pushed _ _ _ _ _ _ _ _ _ c.in_ok-push_lines.ensures.done c.in_ok-push_lines.ensures.counted
    (first-refused _ _ _ _ _ _ again.result p.0 p.1 c.in_err-push_libraries.ensures.left c.in_err-push_libraries.ensures.why
    c.in_err-push_libraries.ensures.counted))

pub returns-in_err-push_lines-2 : goal.returns-in_err-push_lines-2
returns-in_err-push_lines-2 g c =
    let again = c.from_residual-in_err-push_lines-2 in
    let p = err_from_is_err_and again.result again.ensures.1 in
    let r = c.args.report.now in
    pushed-as _ _ _ _ _ _ again.result
    (report-is r c.deref.result.now c.deref-2.result.now c.deref-3.result.now r.fixups.items c.deref.ensures.value c.deref-2.ensures.value
    c.deref-3.ensures.value refl)
    (both-pushed _ _ _ _ _ _ _ _ _ c.in_ok-push_lines.ensures.done c.in_ok-push_lines.ensures.counted
    (both-pushed _ _ _ _ _ _ _ _ _ c.in_ok-push_libraries.ensures.done c.in_ok-push_libraries.ensures.counted
    (first-refused _ _ _ _ _ _ again.result p.0 p.1 c.in_err-push_lines-2.ensures.left c.in_err-push_lines-2.ensures.why
    c.in_err-push_lines-2.ensures.counted)))

pub returns-in_err-push_exports : goal.returns-in_err-push_exports
returns-in_err-push_exports g c =
    let again = c.from_residual-in_err-push_exports in
    let p = err_from_is_err_and again.result again.ensures.1 in
    let r = c.args.report.now in
    pushed-as _ _ _ _ _ _ again.result
    (report-is r c.deref.result.now c.deref-2.result.now c.deref-3.result.now r.fixups.items c.deref.ensures.value c.deref-2.ensures.value
    c.deref-3.ensures.value refl)
    (both-pushed _ _ _ _ _ _ _ _ _ c.in_ok-push_lines.ensures.done c.in_ok-push_lines.ensures.counted
    (both-pushed _ _ _ _ _ _ _ _ _ c.in_ok-push_libraries.ensures.done c.in_ok-push_libraries.ensures.counted
    (both-pushed _ _ _ _ _ _ _ _ _ c.in_ok-push_lines-2.ensures.done c.in_ok-push_lines-2.ensures.counted
    (first-refused _ _ _ _ _ _ again.result p.0 p.1 c.in_err-push_exports.ensures.left c.in_err-push_exports.ensures.why
    c.in_err-push_exports.ensures.counted))))
