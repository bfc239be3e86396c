-- The section headers of each segment, one segment behind the other.
use Rattle.std.specs.Prelude.{◌≡◌}
use Rattle.std.specs.List.{flat_map}
use Rattle.macho_model.specs.Placement.{Placed}
use Rattle.macho_model.specs.Head.{headers_in}

-- The headers of the segments, one behind the other, are all headers.
pub record HeadersAreSplit (p : Placed) : Type 0 where
  pub are : flat_map (headers_in p) p.segments ≡ p.output_sections
