-- The parts that the rules of alignment and of shared addresses speak of.
use Rattle.macho_model.specs.Placement.{Piece}
use Rattle.macho_placement_rules.specs.declared.parts.Part.{Part}

-- a part as a piece of the image
abbrev pub piece_of : Part → Piece
piece_of p = record { start = p.start; size = p.size; exponent = p.exponent }
