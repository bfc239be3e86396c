use Rattle.macho_refusal_laws.proofs.Clear.{clear_is_unrefused}
use Rattle.macho_refusal_laws.proofs.laws.nothing_stands.Goals as goal

pub returns : goal.returns
returns c = clear_is_unrefused
