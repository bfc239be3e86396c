use Rattle.macho_commands.proofs.HeadBytes.{head_found_again}
use Rattle.macho_commands.proofs.laws.head_is_found_again.Goals as goal

pub returns : goal.returns
returns c = head_found_again
