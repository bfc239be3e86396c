use Rattle.macho_placed_laws.proofs.Apart.{ranges_apart, ranges_end}
use Rattle.macho_placed_laws.proofs.ranges.parts_have_ranges_of_their_own.Goals as goal

pub returns : goal.returns
returns c = record { apart = ranges_apart; inside = ranges_end }
