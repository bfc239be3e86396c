-- What the link refuses is refused of the job.
use Rattle.wild_macho.proofs.Joining.{link-fails}
use Rattle.wild_macho.proofs.passes.link.Goals as goal

pub returns-in-Err-clause-why : goal.returns-in-Err-clause-why
returns-in-Err-clause-why c = link-fails c.args.linker.now c.in-Err.error c.of_link.result c.in-Err.ensures.why c.of_link.ensures
