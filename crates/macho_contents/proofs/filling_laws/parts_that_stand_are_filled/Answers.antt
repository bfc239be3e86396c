-- Parts that stand are filled.
use Rattle.macho_contents.proofs.Standing.{section_parts_fill, stub_parts_set}
use Rattle.macho_contents.proofs.filling_laws.parts_that_stand_are_filled.Goals as goal

pub returns : goal.returns
returns c = record { sections = section_parts_fill; stubs = stub_parts_set }
