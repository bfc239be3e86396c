-- The laws are those of `Sites`.
use Rattle.macho_image_rules.proofs.Sites.{words_are_all, misled_of_site}
use Rattle.macho_image_rules.proofs.laws.needed_words_are_slots_and_pointers.Goals as goal

pub returns-clause-all : goal.returns-clause-all
returns-clause-all c = words_are_all

pub returns-clause-misled : goal.returns-clause-misled
returns-clause-misled c = misled_of_site
