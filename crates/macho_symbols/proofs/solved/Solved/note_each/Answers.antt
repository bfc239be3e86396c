use Rattle.std.proofs.Common.{◌≡◌, subst, take, arith}
use Rattle.std.proofs.lemmas.List.{length-map, take_all}
use Rattle.std.proofs.lemmas.Result.{err_from_is_err_and}
use Rattle.macho_export_lists.specs.Entries.{texts_of}
use Rattle.macho_symbols.specs.steps.Solved.{HaveNoted}
use Rattle.macho_symbols.proofs.AskedFor.{none_noted_yet, next_name, missing_among, grown_more, unchanged_grown}
use Rattle.macho_symbols.proofs.solved.Solved.note_each.Goals as goal

pub loop-name-init : goal.loop-name-init
loop-name-init c = none_noted_yet c.args.self.now c.requires

pub note_name-requires : goal.note_name-requires
note_name-requires c = c.loop-name.invariant.solved

pub loop-name-preserved : goal.loop-name-preserved
loop-name-preserved c =
    next_name c.args.self.now c.loop-name.self c.note_name.new.self c.args.names.now c.loop-name.name-index c.name-item.result
    c.deref.result.now
    c.loop-name-test.true c.name-item.is c.deref.ensures.value c.loop-name.invariant c.in_ok-note_name.ensures.noted

pub returns-in_err-note_name-clause-grown : goal.returns-in_err-note_name-clause-grown
returns-in_err-note_name-clause-grown c =
    let p = err_from_is_err_and c.from_residual.result c.from_residual.ensures.1 in
    rw p.1
    (grown_more c.args.self.now c.loop-name.self c.note_name.new.self c.loop-name.invariant.grown
    (unchanged_grown c.loop-name.self c.note_name.new.self c.in_err-note_name.ensures.kept))

pub returns-in_err-note_name-clause-why : goal.returns-in_err-note_name-clause-why
returns-in_err-note_name-clause-why c =
    let p = err_from_is_err_and c.from_residual.result c.from_residual.ensures.1 in
    rw (p.1, p.2)
    (missing_among c.args.self.now.files.items c.loop-name.self.files.items c.args.names.now c.loop-name.name-index c.name-item.result
    c.deref.result.now _ c.loop-name-test.true c.name-item.is c.deref.ensures.value c.loop-name.invariant.grown.files
    c.in_err-note_name.ensures.why)

pub returns-clause-noted : goal.returns-clause-noted
returns-clause-noted c =
    let vs = c.args.names.now in
    let all : take c.loop-name.name-index (texts_of vs) ≡ texts_of vs =
    take_all c.loop-name.name-index (texts_of vs) (omega (arith, length-map vs (λ v. v.items))) in
    subst (HaveNoted c.args.self.now c.loop-name.self) all c.loop-name.invariant
