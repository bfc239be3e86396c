-- An archive has one number of entries, and that says the members.
use Rattle.macho_archive.proofs.Refusals.{one_list}
use Rattle.macho_archive.proofs.laws.members_are_one.Goals as goal

pub returns : goal.returns
returns c = one_list
