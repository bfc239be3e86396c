-- What is laid out of a link's plan is placed.
use Rattle.macho_layout_laws.proofs.Placing.{laid_out_is_placed, kept_is_placed}
use Rattle.macho_layout_laws.proofs.what_is_laid_out_is_placed.Goals as goal

pub returns : goal.returns
returns c = record { laid = laid_out_is_placed; kept = kept_is_placed }
