-- A byte of a word is of what the loader makes of it.
use Rattle.std.proofs.Common.{refl}
use Rattle.macho_image_walks.proofs.mapped.byte_of_word.Goals as goal

pub returns-in-None-clause-only : goal.returns-in-None-clause-only
returns-in-None-clause-only c _ v choice gives byte = c.in-None.ensures.only refl byte.value choice gives byte.made
