-- What the linker refuses of a made object is refused of it.
use Rattle.macho_job.proofs.Refusing.{made_fails}
use Rattle.macho_job.proofs.made.add_object.Goals as goal

pub returns-in-Err-clause-why : goal.returns-in-Err-clause-why
returns-in-Err-clause-why c =
    made_fails c.args.index c.args.count c.in-Err.error c.of_input.result (rw c.in_ok-bytes.ensures at c.in-Err.ensures.why)
    c.of_input.ensures
