use Rattle.macho_placed_laws.proofs.Ties.{head_ties}
use Rattle.macho_placed_laws.proofs.agreement.head_agrees.Goals as goal

pub returns : goal.returns
returns c = head_ties
