use Rattle.macho_commands.proofs.HeadTexts.{found_said}
use Rattle.macho_commands.proofs.laws.head_found_is_said.Goals as goal

pub returns : goal.returns
returns c = found_said
