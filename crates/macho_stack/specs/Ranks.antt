-- Cells in the order of their ranks.
use Rattle.std.specs.Prelude.{◌≡◌, ℕ, ◌==◌, Bool, List, ◌++◌, length, map, filter, get_or, All, AllPairs, Contains}
use Rattle.std.specs.List.{flat_map, range_with_len}
use Rattle.macho_stack.specs.declared.place.Cell.{Cell}
use Rattle.macho_stack.specs.declared.place.PlacedCell.{PlacedCell}
use Rattle.macho_stack.specs.Blocks.{Block, IsStack}
use Rattle.macho_stack.specs.Costs.{block_cost}

abbrev pub cell_cost : Cell → ℕ
cell_cost c = block_cost c.size c.exponent

abbrev pub has_rank : ℕ → Cell → Bool
has_rank rank c = c.rank == rank

-- the cells of so many ranks from the first one on: by rank, and in a rank as they are given
unfoldable pub of_ranks : ℕ → ℕ → List Cell → List Cell
of_ranks first count cells = flat_map (λ rank. filter (has_rank rank) cells) (range_with_len first count)

abbrev pub cell_block : PlacedCell → Block
cell_block q = record { start = q.start; size = q.cell.size; exponent = q.cell.exponent }

-- placed cells were added, one behind the other from a place on
pub record AddsCells (cells : List Cell) (start : ℕ) (old new : List PlacedCell) (end : ℕ) : Type 0 where
  pub added : List PlacedCell
  pub are : new ≡ old ++ added
  pub same : map (λ q. q.cell) added ≡ cells
  pub stack : IsStack start (map cell_block added) end

-- a list of starts has that of each placed cell at the cell's number, where no two cells have one number, and 0 at other numbers
pub record HasStarts (count : ℕ) (placed : List PlacedCell) (starts : List ℕ) : Type 0 where
  pub many : length starts ≡ count
  pub each : AllPairs (λ a b. a.cell.number ≡ b.cell.number → ⊥) placed → (q : PlacedCell) → Contains placed q
      → get_or starts q.cell.number 0 ≡ q.start
  pub rest : (n : ℕ) → All (λ q. q.cell.number ≡ n → ⊥) placed → get_or starts n 0 ≡ 0
