-- Parts lie in their ranges.
use Rattle.macho_contents.proofs.FilledRanges.{section_parts_lie, stub_parts_lie}
use Rattle.macho_contents.proofs.filling_laws.parts_lie_in_their_ranges.Goals as goal

pub returns : goal.returns
returns c = record { sections = section_parts_lie; stubs = stub_parts_lie }
