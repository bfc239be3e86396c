-- Rows that are as good as others.
use Rattle.std.specs.Prelude.{ℕ, ◌==◌, ◌&&◌, Bool, List}
use Rattle.macho_symbol_names.specs.Kept.{Row}
use Rattle.macho_symbol_names.specs.Events.{Event, strength, common_size, is_of}

-- a row is as good a definition as another
abbrev pub ties : Row → Row → Bool
ties a b = (strength a == strength b) && (common_size a == common_size b)

-- an event of the name is as good as another
abbrev pub is_level : List ℕ → Event → Event → Bool
is_level name b e = ties b.row e.row && is_of name e
