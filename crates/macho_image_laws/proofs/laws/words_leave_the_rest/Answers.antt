-- The lemmas say just this, by the law that is called.
use Rattle.macho_image_laws.proofs.StayFilled.{sections_stay_filled, stubs_stay_set}
use Rattle.macho_image_laws.proofs.laws.words_leave_the_rest.Goals as goal

pub returns-clause-sections : goal.returns-clause-sections
returns-clause-sections c = sections_stay_filled c.bytes_beside_words_stay.ensures.bytes

pub returns-clause-stubs : goal.returns-clause-stubs
returns-clause-stubs c = stubs_stay_set c.bytes_beside_words_stay.ensures.bytes
