-- Parts of the definitions of `ExportLists`, by names that proofs use.
use Rattle.std.specs.Prelude.{ℕ, List, reverse}
use Rattle.macho_model.specs.ExportLists.{without_front}

-- a text without those at both ends
abbrev pub trimmed : List ℕ → List ℕ
trimmed text = reverse (without_front (reverse (without_front text)))
