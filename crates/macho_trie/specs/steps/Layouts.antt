-- A table with its symbols: the tree that it spells, the sizes of its nodes, and their places.
use Rattle.std.specs.Prelude.{◌≡◌, ◌⊎◌, ℕ, ◌+◌, ◌<◌, ◌≤◌, List, length, map, take, sum, get_or, set, slice_index, Option}
use Rattle.std.specs.List.{range_with_len, AllPairs}
use Rattle.macho_bytes.specs.Uleb.{uleb_of}
use Rattle.macho_trie.specs.Exports.{Exported}
use Rattle.macho_trie.specs.Symbols.{symbols_of, names_of}
use Rattle.macho_trie.specs.Trees.{Edges, node_count}
use Rattle.macho_trie.specs.steps.Trees.{HasChild}
use Rattle.macho_trie.specs.Tables.{trees_of, AreRows, children_at}
use Rattle.macho_trie.specs.Encoding.{says_of, terminal_size, node_sizes, place_of, AreWide, AreLeast}
use Rattle.macho_trie.specs.declared.layout.Layout.{Layout}

abbrev pub names_at : Layout → List (List ℕ)
names_at l = names_of l.symbols.now

abbrev pub says_at : Layout → ℕ → Exported
says_at l = says_of (symbols_of l.symbols.now)

abbrev pub tree_at : Layout → Edges
tree_at l = trees_of (names_at l) l.rows.now

abbrev pub size_at : Layout → Option ℕ → ℕ
size_at l = terminal_size (says_at l)

-- the table is one of the symbols' names
abbrev pub IsLaid : Layout → Type 0
IsLaid l = AreRows (names_at l) l.rows.now

-- the children of a row
abbrev pub children_of : Layout → ℕ → Edges
children_of l row = children_at (names_at l) l.rows.now row

-- the sizes of all nodes under some widths
abbrev pub AreSizes : Layout → (ℕ → ℕ) → List ℕ → Type 0
AreSizes l width sizes = sizes ≡ node_sizes (size_at l) width 0 (tree_at l)

-- a row is a child of another one
abbrev pub IsChild : Layout → ℕ → ℕ → Type 0
IsChild l row c = HasChild c (row + 1) (children_of l row)

-- The children of a row are named with its number, and all else is as it was.
pub record AreNamed (l : Layout) (row : ℕ) (was now : List ℕ) : Type 0 where
  pub long : length now ≡ length was
  pub each : (c : ℕ) → ((slice_index now c ≡ row) × IsChild l row c) ⊎ ((slice_index now c ≡ slice_index was c) × (IsChild l row c → ⊥))

-- Each row but the first has a parent.
pub record AreParents (l : Layout) (parents : List ℕ) : Type 0 where
  pub long : length parents ≡ length l.rows.now
  pub within : (c : ℕ) → 1 ≤ c → c < length l.rows.now → slice_index parents c < length l.rows.now
  pub child : (c : ℕ) → 1 ≤ c → c < length l.rows.now → IsChild l (slice_index parents c) c

-- the sums of the first sizes, from none of them to all
abbrev pub AreSums : List ℕ → List ℕ → Type 0
AreSums sizes sums = sums ≡ map (λ k. sum (take k sizes)) (range_with_len 0 (length sizes + 1))

-- the places of all nodes under some widths, and the place after the last one
abbrev pub ArePlaces : Layout → (ℕ → ℕ) → List ℕ → Type 0
ArePlaces l width places = places ≡ map (place_of (size_at l) width (tree_at l)) (range_with_len 0 (length l.rows.now + 1))

-- The places under the least widths.
pub record AreLaidOut (l : Layout) (places : List ℕ) : Type 0 where
  pub width : ℕ → ℕ
  pub least : AreLeast (size_at l) width (tree_at l)
  pub placed : ArePlaces l width places

-- the bytes that a place needs
abbrev pub needed : List ℕ → ℕ → ℕ
needed places k = length (uleb_of (slice_index places k))

-- no edge is too narrow
abbrev pub NoneNarrow : List ℕ → List ℕ → Type 0
NoneNarrow places widths = (k : ℕ) → 1 ≤ k → k < length widths → needed places k ≤ slice_index widths k

-- An edge is too narrow.
pub record IsNarrow (places widths : List ℕ) (k : ℕ) : Type 0 where
  pub child : 1 ≤ k
  pub within : k < length widths
  pub narrow : slice_index widths k < needed places k

-- Children on a list, by their rows, in rising order: none is the root.
pub record AreListed (count : ℕ) (list : List ℕ) : Type 0 where
  pub child : (k d : ℕ) → k < length list → (1 ≤ get_or list k d) × (get_or list k d < count)
  pub rising : AllPairs (λ i j. i < j) list

-- What is known of widths on the way: they are at most what the present places need, and at most any that are wide enough.
pub record AreLow (size : Option ℕ → ℕ) (tree : Edges) (widths : List ℕ) : Type 0 where
  pub few : (k : ℕ) → slice_index widths k ≤ 10
  pub low : (k : ℕ) → 1 ≤ k → k < node_count tree → slice_index widths k ≤ length (uleb_of (place_of size (slice_index widths) tree k))
  pub least : (other : ℕ → ℕ) → AreWide size other tree → (k : ℕ) → 1 ≤ k → k < node_count tree → slice_index widths k ≤ other k

-- the same of a table's widths, one for each row
pub record AreLowWidths (l : Layout) (widths : List ℕ) : Type 0 where
  pub long : length widths ≡ length l.rows.now
  pub low : AreLow (size_at l) (tree_at l) widths

-- widths are as they were, or there are more bytes of them
abbrev pub AreGrown : List ℕ → List ℕ → Type 0
AreGrown was now = (now ≡ was) ⊎ (sum was < sum now)

-- where the first edge of a list is too narrow, there are more bytes of them
abbrev pub FirstGrows : List ℕ → List ℕ → List ℕ → List ℕ → Type 0
FirstGrows places list was now = 1 ≤ length list → IsNarrow places was (slice_index list 0) → sum was < sum now

-- An edge whose child has a place has grown by some bytes: by none where it is wide enough, else to the width that is needed.
pub record IsLookedAt (place child growth : ℕ) (was now : List ℕ) : Type 0 where
  pub only : now ≡ set was child (slice_index was child + growth)
  pub enough : length (uleb_of place) ≤ slice_index was child + growth
  pub need : (growth ≡ 0) ⊎ (slice_index was child + growth ≡ length (uleb_of place))
