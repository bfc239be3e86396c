-- What the head and the signature say of the placement.
use Rattle.std.specs.Prelude.{◌≡◌, ℕ, ◌-◌, List, filter}
use Rattle.macho_model.specs.declared.placed.PlacedSegment.{PlacedSegment}
use Rattle.macho_model.specs.Links.{Link}
use Rattle.macho_model.specs.Segments.{TEXT}
use Rattle.macho_model.specs.Targets.{target_of_name}
use Rattle.macho_model.specs.Placement.{Placed, is_segment_named}
use Rattle.macho_model.specs.Lists.{of_first}
use Rattle.macho_model.specs.Addresses.{address_of}

-- the file bytes of the first `__TEXT`
abbrev pub IsTextSize : List PlacedSegment → ℕ → Type 0
IsTextSize segments size = size ≡ of_first 0 (λ s. s.file_size) (filter (is_segment_named TEXT) segments)

-- where the name of the entry leads, counted from the base
abbrev pub entry_said : Link → Placed → ℕ
entry_said l p = address_of p (target_of_name l l.entry) - p.base
