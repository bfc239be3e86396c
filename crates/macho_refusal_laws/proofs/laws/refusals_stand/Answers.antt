use Rattle.macho_refusal_laws.proofs.Kept.{placed_is_kept, early_is_standing, late_is_standing}
use Rattle.macho_refusal_laws.proofs.laws.refusals_stand.Goals as goal

pub returns : goal.returns
returns c = record { kept = placed_is_kept; early = early_is_standing; late = late_is_standing }
