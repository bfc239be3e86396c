use Rattle.macho_contents.proofs.ChainedRanges.{words_lie}
use Rattle.macho_contents.proofs.Kept.{bytes_stay, words_stay}
use Rattle.macho_contents.proofs.chaining_laws.chained_words_lie_in_ranges.Goals as goal

pub returns-clause-lie : goal.returns-clause-lie
returns-clause-lie c = words_lie

pub returns-clause-outside : goal.returns-clause-outside
returns-clause-outside c = bytes_stay

pub returns-clause-stay : goal.returns-clause-stay
returns-clause-stay c = words_stay
