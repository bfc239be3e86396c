-- What the code's own steps over segments say.
use Rattle.std.specs.Prelude.{◌≡◌, ℕ, List, Contains, true}
use Rattle.macho_model.specs.declared.placed.PlacedSegment.{PlacedSegment}
use Rattle.macho_model.specs.Segments.{TEXT}
use Rattle.macho_model.specs.Placement.{is_segment_named}

-- some segment is `__TEXT` and stands at an address
abbrev pub HasTextAt : List PlacedSegment → ℕ → Type 0
HasTextAt segments base = (s : PlacedSegment) × Contains segments s × (is_segment_named TEXT s ≡ true) × (s.address ≡ base)
