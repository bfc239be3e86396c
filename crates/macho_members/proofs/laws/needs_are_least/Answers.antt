-- By the steps by which a member came to be linked.
use Rattle.macho_members.proofs.Least.{least}
use Rattle.macho_members.proofs.laws.needs_are_least.Goals as goal

pub returns : goal.returns
returns c = least
