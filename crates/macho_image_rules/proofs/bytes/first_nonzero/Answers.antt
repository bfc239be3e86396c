-- The first byte of a part of memory that isn't 0.
--
-- The file has no byte behind the part's end, so the byte lies in it; and there the part has the file's byte alone.
use Rattle.std.proofs.Common.{sym, arith}
use Rattle.macho_image_rules.proofs.bytes.first_nonzero.Goals as goal

pub returns-in-Some-clause-why : goal.returns-in-Some-clause-why
returns-in-Some-clause-why c =
    let why = c.in-Some.ensures.why in (
      omega (arith, why.0, c.filed_bytes.ensures.short),
      λ zero. why.1 (sym (c.filed_bytes.ensures.only c.in-Some.i 0 (omega (arith, why.0, c.filed_bytes.ensures.short)) zero)),
    )
