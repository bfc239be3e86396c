-- Both lists rise, and have the same members.
use Rattle.macho_members.proofs.OneList.{one_answer}
use Rattle.macho_members.proofs.laws.needed_are_one.Goals as goal

pub returns : goal.returns
returns c = one_answer
