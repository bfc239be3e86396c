-- The inputs are those of the link that is asked for, so their symbols are its, and what is read of them is its reading.
use Rattle.std.proofs.Common.{sym}
use Rattle.std.proofs.lemmas.Result.{err_from_is_err_and}
use Rattle.macho_linking.specs.Planning.{IsSingle}
use Rattle.macho_linking.proofs.Given.{same_inputs, link_handed, on_ok, stands_always}
use Rattle.macho_linking.proofs.planning.read_inputs.Goals as goal

pub returns-in_err-resolved-clause-why : goal.returns-in_err-resolved-clause-why
returns-in_err-resolved-clause-why c =
    let l = c.args.linker.now in
    let e = err_from_is_err_and c.from_residual.result c.from_residual.ensures.1 in
    rw (e.1, e.2)
    (λ counts are. c.in_err-resolved.ensures.why l counts (sym c.inputs.ensures.same))

pub read_link-requires-clause-same : goal.read_link-requires-clause-same
read_link-requires-clause-same c =
    let l = c.args.linker.now in
    same_inputs l c.args.views.now c.in_ok-resolved.resolved c.requires.views (c.in_ok-resolved.ensures.done l (sym c.inputs.ensures.same))

pub returns-clause-done : goal.returns-clause-done
returns-clause-done c =
    let l = c.args.linker.now in
    c.read_link.ensures.done l (link_handed l c.args.views.now c.in_ok-resolved.resolved _ _ c.requires.views
    (c.in_ok-resolved.ensures.done l (sym c.inputs.ensures.same))
    c.entry_name.ensures c.requires.lists)

pub returns-clause-single : goal.returns-clause-single
returns-clause-single c =
    let l = c.args.linker.now in
    on_ok c.read_link.result (IsSingle l) (c.in_ok-resolved.ensures.single l (sym c.inputs.ensures.same))

pub returns-clause-why : goal.returns-clause-why
returns-clause-why c =
    let l = c.args.linker.now in
    stands_always l c.read_link.result (λ counts. c.read_link.ensures.why l counts
    (link_handed l c.args.views.now c.in_ok-resolved.resolved _ _
    c.requires.views (c.in_ok-resolved.ensures.done l (sym c.inputs.ensures.same)) c.entry_name.ensures c.requires.lists))
