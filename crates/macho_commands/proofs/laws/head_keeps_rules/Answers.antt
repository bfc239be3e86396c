use Rattle.macho_commands.proofs.Kept.{head_kept}
use Rattle.macho_commands.proofs.laws.head_keeps_rules.Goals as goal

pub returns : goal.returns
returns c = head_kept
