-- What is laid out ends within the sum.
use Rattle.macho_layout.proofs.Ends.{text_is_first, ends_within_sum}
use Rattle.macho_layout.proofs.laws.what_is_laid_out_ends_within_the_sum.Goals as goal

pub returns : goal.returns
returns c = record { text = text_is_first; within = ends_within_sum }
