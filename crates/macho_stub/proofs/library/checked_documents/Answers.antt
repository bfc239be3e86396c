use Rattle.std.proofs.Common.{map, arith, add-one}
use Rattle.std.proofs.lemmas.Result.{err_from_is_err_and}
use Rattle.macho_stub.specs.steps.Opened.{document_of}
use Rattle.macho_stub.specs.steps.Checks.{checked_documents}
use Rattle.macho_stub.proofs.Gather.{next_is_sound, next_is_broken, all_are_sound}
use Rattle.macho_stub.proofs.library.checked_documents.Goals as goal

pub returns-in_err-checked_document : goal.returns-in_err-checked_document
returns-in_err-checked_document c =
    let p = err_from_is_err_and c.from_residual-in_err-checked_document.result c.from_residual-in_err-checked_document.ensures.1 in
    rw (p.1, p.2) (next_is_broken c.in_err-checked_document.field-0.0 (document_of c.args.main.now) c.args.documents.now
    c.loop-document.document-index c.document-item.result
    (checked_documents (document_of c.args.main.now) (map document_of c.args.documents.now)) (omega arith) c.document-item.is
    c.in_err-checked_document.ensures c.loop-document.invariant)

pub loop-document-preserved : goal.loop-document-preserved
loop-document-preserved c =
    rw add-one (next_is_sound (document_of c.args.main.now) c.args.documents.now c.loop-document.document-index c.document-item.result _
    (checked_documents (document_of c.args.main.now) (map document_of c.args.documents.now)) (omega arith) c.document-item.is
    c.in_ok-checked_document.ensures c.loop-document.invariant)

pub returns : goal.returns
returns c = all_are_sound (document_of c.args.main.now) c.args.documents.now c.loop-document.document-index _ (omega arith)
    c.loop-document.invariant
