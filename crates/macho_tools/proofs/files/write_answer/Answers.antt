-- A failed write left the first of the bytes, and was counted.
use Rattle.macho_tools.proofs.files.write_answer.Goals as goal

pub returns-in-Err-Failed-clause-why : goal.returns-in-Err-Failed-clause-why
returns-in-Err-Failed-clause-why g c =
    (rw c.in-Err-Failed.field-0-is at c.in-Err-Failed.ensures.left, rw c.in-Err-Failed.field-0-is at c.in-Err-Failed.ensures.why)
