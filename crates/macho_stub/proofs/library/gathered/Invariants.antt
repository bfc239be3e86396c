use Rattle.std.proofs.Common.{◌≡◌, ◌++◌, drop, map}
use Rattle.std.specs.List.{flat_map}
use Rattle.macho_stub_lines.specs.Lists.{texts}
use Rattle.macho_stub.specs.steps.Opened.{document_of}
use Rattle.macho_stub.specs.steps.Checks.{texts_of_document}
use Rattle.macho_stub.proofs.library.gathered.Given as goal

abbrev pub invariant-loop-document : goal.invariant-loop-document
invariant-loop-document l = texts l.names.items ++ flat_map (texts_of_document l.weak)
    (drop l.document-index (map document_of l.documents)) ≡ flat_map (texts_of_document l.weak) (map document_of l.documents)
