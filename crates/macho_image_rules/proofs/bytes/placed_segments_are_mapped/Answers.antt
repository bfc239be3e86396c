-- A segment of a placement is mapped: its name and ranges are those of one of the image.
use Rattle.macho_image_rules.proofs.Mapped.{placed_is_mapped}
use Rattle.macho_image_rules.proofs.bytes.placed_segments_are_mapped.Goals as goal

pub returns : goal.returns
returns c = placed_is_mapped
