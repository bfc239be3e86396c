-- What the walks say of the names of a fixup table.
use Rattle.std.specs.Prelude.{◌≡◌, ℕ, nat_lt, List, drop}
use Rattle.macho_model.specs.ObjectRules.{has_nul}

-- a name ends in a list of names exactly where it begins below a place
abbrev pub EndsBelow : List ℕ → ℕ → Type 0
EndsBelow names end = (offset : ℕ) → has_nul (drop offset names) ≡ nat_lt offset end
