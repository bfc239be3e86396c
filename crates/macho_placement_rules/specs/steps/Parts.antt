-- What the code's own steps over parts say.
use Rattle.std.specs.Prelude.{◌≡◌, ℕ, ◌+◌, ◌<◌, ◌≤◌, ◌⊎◌, List, get_or}
use Rattle.macho_model.specs.Placement.{AreApart}
use Rattle.macho_placement_rules.specs.declared.parts.Part.{Part}
use Rattle.macho_placement_rules.specs.Parts.{piece_of}

-- two parts share no address
abbrev pub ArePartsApart : Part → Part → Type 0
ArePartsApart p q = AreApart (piece_of p) (piece_of q)

-- The first n of some parts in the order of their starts share no address, two by two, and none with bytes ends behind the last one of
-- these with bytes; where there is none, the last one is empty and begins at 0.
pub record IsSwept (parts : List Part) (n : ℕ) (last : Part) : Type 0 where
  pub apart : (j k : ℕ) (d : Part) → j < k → k < n → ArePartsApart (get_or parts j d) (get_or parts k d)
  pub below : (k : ℕ) (d : Part) → k < n → ((get_or parts k d).size ≡ 0)
      ⊎ ((get_or parts k d).start + (get_or parts k d).size ≤ last.start + last.size)
  pub among : (last.start ≡ 0) × (last.size ≡ 0) ⊎ (k : ℕ) × (k < n) × ((d : Part) → get_or parts k d ≡ last)
