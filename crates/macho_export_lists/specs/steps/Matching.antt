-- The steps of matching a name.
use Rattle.std.specs.Prelude.{ℕ, ◌+◌, Bool, List, length, drop}
use Rattle.std.specs.List.{list_any, range_with_len}
use Rattle.macho_model.specs.ExportLists.{matches}

-- some rest of a name matches the rest of an entry
unfoldable pub matches_behind : List ℕ → List ℕ → Bool
matches_behind rest name = list_any (λ k. matches rest (drop k name)) (range_with_len 0 (length name + 1))
