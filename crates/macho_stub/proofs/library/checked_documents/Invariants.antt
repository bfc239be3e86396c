use Rattle.std.proofs.Common.{◌≡◌, drop, map}
use Rattle.macho_stub.specs.steps.Opened.{document_of}
use Rattle.macho_stub.specs.steps.Checks.{checked_documents}
use Rattle.macho_stub.proofs.library.checked_documents.Given as goal

abbrev pub invariant-loop-document : goal.invariant-loop-document
invariant-loop-document l = checked_documents (document_of l.main) (drop l.document-index (map document_of l.documents))
    ≡ checked_documents (document_of l.main) (map document_of l.documents)
