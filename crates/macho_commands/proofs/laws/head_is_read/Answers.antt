use Rattle.macho_commands.proofs.HeadRead.{head_read}
use Rattle.macho_commands.proofs.laws.head_is_read.Goals as goal

pub returns : goal.returns
returns c = head_read
