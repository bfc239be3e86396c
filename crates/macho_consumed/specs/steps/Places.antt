-- The relocations of a section by place, as far as a loop has come.
use Rattle.std.specs.Prelude.{◌≡◌, ℕ, ◌*◌, ◌/◌, ◌%◌, ◌<◌, ◌≤◌, ◌==◌, true, false, List, [], ◌∷◌, length, filter, Option, Some, None, get_or}
use Rattle.std.specs.List.{range_with_len}
use Rattle.macho_model.specs.Objects.{section_at, relocation_at}
use Rattle.macho_consumed.specs.declared.places.Cell.{Cell}
use Rattle.macho_consumed.specs.declared.places.Cell.TheVariants.{Empty, One, Several}
use Rattle.macho_consumed.specs.declared.places.Places.{Places}

-- those of the first relocations that stand at a place
unfoldable pub found : List ℕ → ℕ → ℕ → ℕ → List ℕ
found b k n place = filter (λ r. (relocation_at b k r).r_address == place) (range_with_len 0 n)

-- what a cell tells of the relocations at its place
abbrev pub CellTells : List ℕ → Cell → Type 0
CellTells xs Empty = xs ≡ []
CellTells xs (One r) = xs ≡ r ∷ []
CellTells xs Several = 2 ≤ length xs

-- A table of places, in units of 8 bytes, for the first relocations.
pub record IsTable (b : List ℕ) (k n : ℕ) (cells : List Cell) : Type 0 where
  pub long : length cells ≡ (section_at b k).size / 8
  pub cell : (i : ℕ) → i < length cells → CellTells (found b k n (8 * i)) (get_or cells i Empty)

-- one of the first relocations stands at an address that is no multiple of 8
abbrev pub IsBetween : List ℕ → ℕ → ℕ → ℕ → Type 0
IsBetween b k n address = (r : ℕ) × (r < n) × (address ≡ (relocation_at b k r).r_address) × ((address % 8 == 0) ≡ false)

-- none does so below a bound
abbrev pub NoneBelow : List ℕ → ℕ → ℕ → ℕ → Type 0
NoneBelow b k n bound = (r : ℕ) → r < n → (relocation_at b k r).r_address < bound → ((relocation_at b k r).r_address % 8 == 0) ≡ true

-- the least of these addresses
abbrev pub IsLeast : List ℕ → ℕ → ℕ → Option ℕ → Type 0
IsLeast b k n None = (bound : ℕ) → NoneBelow b k n bound
IsLeast b k n (Some address) = IsBetween b k n address × NoneBelow b k n address

-- The places of all relocations of a section.
pub record ArePlaces (b : List ℕ) (k : ℕ) (p : Places) : Type 0 where
  pub table : IsTable b k (section_at b k).nreloc p.cells.items
  pub least : IsLeast b k (section_at b k).nreloc p.between
