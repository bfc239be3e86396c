-- The lines of names, as one text.
use Rattle.macho_inspect.specs.Lines.{export_pieces}
use Rattle.macho_inspect.proofs.Texts.{pushed-as, lines-of}
use Rattle.macho_inspect.proofs.lines.push_exports.Goals as goal

pub returns-in-Listed : goal.returns-in-Listed
returns-in-Listed g c =
    rw c.in-Listed.is (pushed-as _ _ _ _ _ _ c.push_lines.result
    (lines-of export_pieces c.in-Listed.names.items c.deref.result.now c.deref.ensures.value) c.push_lines.ensures)
