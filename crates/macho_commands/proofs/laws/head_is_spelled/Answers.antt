use Rattle.macho_commands.proofs.HeadBytes.{head_spelled}
use Rattle.macho_commands.proofs.laws.head_is_spelled.Goals as goal

pub returns : goal.returns
returns c = head_spelled
