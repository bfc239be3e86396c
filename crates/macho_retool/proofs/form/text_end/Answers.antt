-- The first segment named `__TEXT` is the one whose command was found.
use Rattle.std.proofs.Common.{refl}
use Rattle.macho_retool.proofs.Found.{text_found, text_missing}
use Rattle.macho_retool.proofs.form.text_end.Goals as goal

pub returns-in-Some : goal.returns-in-Some
returns-in-Some c =
    text_found c.args.bytes.now c.in-Some.place c.segment_at.result.file_size c.requires (c.in-Some.ensures.found c.in-Some.place refl)
    c.segment_at.ensures.file_size

pub returns-in-None : goal.returns-in-None
returns-in-None c = text_missing c.args.bytes.now (c.in-None.ensures.only refl)
