-- A rule that is told is broken, so the image is not accepted.
use Rattle.macho_image_walks.proofs.BrokenRules.{breaks_not_accepted}
use Rattle.macho_loader.proofs.accept.check_rules.Goals as goal

pub returns-in-Err-clause-only : goal.returns-in-Err-clause-only
returns-in-Err-clause-only c = breaks_not_accepted c.args.bytes.now c.in-Err.fault.rule c.in-Err.fault.place c.in-Err.ensures.why
