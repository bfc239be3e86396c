-- Names in order with their symbols, and how many first bytes two of them share.
use Rattle.std.specs.Prelude.{◌≡◌, ◌≢◌, ◌⊎◌, ◌↔◌, ℕ, ◌+◌, ◌<◌, ◌≤◌, List, [], length, take, slice_index, slice_index_or, Contains}
use Rattle.std.specs.Cmp.Lexicographic.{slice_cmp}
use Rattle.std.specs.Ordering.{nat_cmp}
use Rattle.std.specs.declared.cmp.Ordering.TheVariants.{Less}
use Rattle.macho_trie.specs.Tables.{name_at}

-- the name and the symbol at a place of a list
abbrev pub pair_at : List (List ℕ × ℕ) → ℕ → List ℕ × ℕ
pair_at pairs k = slice_index_or pairs k ([], 0)

-- All names with their symbols, each less than the next one.
pub record AreSorted (names : List (List ℕ)) (pairs : List (List ℕ × ℕ)) : Type 0 where
  pub count : length pairs ≡ length names
  pub all : (name : List ℕ) (s : ℕ) → Contains pairs (name, s) ↔ ((s < length names) × (name_at names s ≡ name))
  pub rising : (k : ℕ) → k + 1 < length pairs → slice_cmp nat_cmp (pair_at pairs k).0 (pair_at pairs (k + 1)).0 ≡ Less

-- so many first bytes are equal, and no more
pub record AreShared (xs ys : List ℕ) (n : ℕ) : Type 0 where
  pub first : n ≤ length xs
  pub second : n ≤ length ys
  pub same : take n xs ≡ take n ys
  pub most : (n ≡ length xs) ⊎ ((n ≡ length ys) ⊎ (slice_index xs n ≢ slice_index ys n))
