use Rattle.std.proofs.Common.{◌≡◌, ◌++◌, arith, add-one}
use Rattle.macho_stub_lines.specs.Lists.{texts}
use Rattle.macho_stub.specs.steps.Opened.{document_of}
use Rattle.macho_stub.specs.steps.Checks.{texts_of_document}
use Rattle.macho_stub_lines.proofs.Bind.{same_ok}
use Rattle.macho_stub.proofs.Gather.{flat_more}
use Rattle.macho_stub.proofs.library.gathered.Goals as goal

pub loop-document-preserved : goal.loop-document-preserved
loop-document-preserved c =
    let e : texts c.loop-document.names.items ++ texts_of_document c.args.weak (document_of c.document-item.result)
    ≡ texts c.in_ok-names.names.items = same_ok _ _ c.in_ok-names.ensures in
    rw (add-one, ← e) (flat_more (texts_of_document c.args.weak) document_of (texts c.loop-document.names.items) _ c.args.documents.now
    c.loop-document.document-index c.document-item.result (omega arith) c.document-item.is c.loop-document.invariant)
