-- What is laid out of a link's plan is whole.
use Rattle.macho_layout.proofs.Whole.{base_is_links, lists_are_whole, sections_are_listed, commons_are_listed}
use Rattle.macho_layout.proofs.laws.what_is_laid_out_is_whole.Goals as goal

pub returns : goal.returns
returns c = record { base = base_is_links; whole = lists_are_whole; sections = sections_are_listed; commons = commons_are_listed }
