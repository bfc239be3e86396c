use Rattle.macho_fixups.proofs.WordsBeside.{bytes_stay, texts_stay}
use Rattle.macho_fixups.proofs.laws.bytes_beside_words_stay.Goals as goal

pub returns-clause-bytes : goal.returns-clause-bytes
returns-clause-bytes c = bytes_stay

pub returns-clause-texts : goal.returns-clause-texts
returns-clause-texts c = texts_stay
