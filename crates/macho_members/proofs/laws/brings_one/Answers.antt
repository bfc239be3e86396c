-- Both are first.
use Rattle.macho_members.proofs.Least.{one_member}
use Rattle.macho_members.proofs.laws.brings_one.Goals as goal

pub returns : goal.returns
returns c = one_member
