-- The bytes of a mapped segment: its own, and no others, since no other mapped segment has an address of it.
use Rattle.macho_image_rules.proofs.Mapped.{mapped_byte_stands, mapped_byte_is_one}
use Rattle.macho_image_rules.proofs.bytes.mapped_segments_give_their_bytes.Goals as goal

pub returns-clause-stands : goal.returns-clause-stands
returns-clause-stands c = mapped_byte_stands

pub returns-clause-one : goal.returns-clause-one
returns-clause-one c = mapped_byte_is_one
