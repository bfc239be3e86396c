use Rattle.macho_linkedit.proofs.CanList.{can_be_listed}
use Rattle.macho_linkedit.proofs.laws.resolved_can_be_listed.Goals as goal

pub returns : goal.returns
returns c = can_be_listed
