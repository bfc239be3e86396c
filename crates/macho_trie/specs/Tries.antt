-- What a trie promises for the register whose names it was made of.
use Rattle.std.specs.Prelude.{◌≡◌, ◌⊎◌, ℕ, ◌-◌, ◌^◌, ◌<◌, ◌≤◌, List, [], ◌∷◌, length, Some, Contains}
use Rattle.macho_bytes.specs.Texts.{put}
use Rattle.macho_trie.specs.Lookup.{trie_finds}
use Rattle.macho_trie.specs.Exports.{Exported, as_value, as_reexport}
use Rattle.macho_trie.specs.Tables.{trees_of, IsTable}
use Rattle.macho_trie.specs.Encoding.{says_of, terminal_bytes, terminal_size, total_of, AreWide, AreLeast, IsExportsTrie}
use Rattle.macho_trie.specs.Trees.{Edges, node_count}
use Rattle.macho_trie.specs.declared.trie.Trie.{Trie}

-- the trie is that of some names: no rows for no names, else a table of their radix tree
abbrev pub IsTrieOf : Trie → List (List ℕ) → Type 0
IsTrieOf trie [] = trie.rows.items ≡ []
IsTrieOf trie (name ∷ names) = IsTable (name ∷ names) trie.rows.items

-- the tree that a trie is of, with its names
abbrev pub tree_of : Trie → List (List ℕ) → Edges
tree_of trie names = trees_of names trie.rows.items

-- A number is the size of a trie's bytes for some symbols, under the least widths.
pub record IsSizeOf (trie : Trie) (names : List (List ℕ)) (symbols : List (List ℕ × Exported)) (n : ℕ) : Type 0 where
  pub width : ℕ → ℕ
  pub least : AreLeast (terminal_size (says_of symbols)) width (tree_of trie names)
  pub total : n ≡ total_of (terminal_size (says_of symbols)) width (tree_of trie names)

-- So many bytes has the exports trie of some symbols: none of none.
abbrev pub IsLengthOfTrie : List (List ℕ × Exported) → ℕ → Type 0
IsLengthOfTrie symbols n =
    (bytes : List ℕ) × (((symbols ≡ []) × (bytes ≡ [])) ⊎ ((1 ≤ length symbols) × IsExportsTrie symbols bytes)) × (length bytes ≡ n)

-- no widths that are wide enough give fewer bytes
abbrev pub IsShortest : Trie → List (List ℕ) → List (List ℕ × Exported) → ℕ → Type 0
IsShortest trie names symbols n =
    (other : ℕ → ℕ) → AreWide (terminal_size (says_of symbols)) other (tree_of trie names)
    → n ≤ total_of (terminal_size (says_of symbols)) other (tree_of trie names)

-- no terminal part of the first symbols is longer than that of the second ones
abbrev pub AreNoLarger : List (List ℕ × Exported) → List (List ℕ × Exported) → Type 0
AreNoLarger symbols others =
    (s : ℕ) → length (terminal_bytes (Some (says_of symbols s))) ≤ length (terminal_bytes (Some (says_of others s)))

-- The first one holds the place of the second one: the greatest address for any address whose flags are below 128, a reexport
-- for itself.
abbrev pub Reserves : Exported → Exported → Type 0
Reserves (as_value flags address) (as_value other place) = (address ≡ 2 ^ 64 - 1) × (other < 128) × (place < 2 ^ 64)
Reserves (as_value flags address) (as_reexport other ordinal name) = ⊥
Reserves (as_reexport flags ordinal name) other = other ≡ as_reexport flags ordinal name

-- each of the first symbols holds the place of the second one of its number
pub record AreReserved (symbols others : List (List ℕ × Exported)) : Type 0 where
  pub count : length others ≡ length symbols
  pub each : (s : ℕ) → s < length symbols → Reserves (says_of symbols s) (says_of others s)

-- Room for any symbols whose terminal parts are nowhere longer: they have no greater size, and no wider edge.
pub record IsRoomFor (trie : Trie) (names : List (List ℕ)) (symbols : List (List ℕ × Exported)) (n : ℕ) : Type 0 where
  pub size : (others : List (List ℕ × Exported)) (m : ℕ) → AreNoLarger others symbols → IsSizeOf trie names others m → m ≤ n
  pub widths : (others : List (List ℕ × Exported)) (narrow wide : ℕ → ℕ) → AreNoLarger others symbols
      → AreLeast (terminal_size (says_of others)) narrow (tree_of trie names) → AreLeast (terminal_size (says_of symbols)) wide
      (tree_of trie names)
      → (k : ℕ) → 1 ≤ k → k < node_count (tree_of trie names) → narrow k ≤ wide k

-- room for any symbols whose places these hold
abbrev pub IsReservedFor : Trie → List (List ℕ) → List (List ℕ × Exported) → ℕ → Type 0
IsReservedFor trie names symbols n =
    (others : List (List ℕ × Exported)) (m : ℕ) → AreReserved symbols others → IsSizeOf trie names others m → m ≤ n

-- look-up finds what each of the symbols says, and finds nothing else
abbrev pub FindsAll : List (List ℕ × Exported) → List ℕ → Type 0
FindsAll symbols bytes = (name : List ℕ) (x : Exported) → Contains symbols (name, x) → trie_finds bytes name x

abbrev pub FindsOnly : List (List ℕ × Exported) → List ℕ → Type 0
FindsOnly symbols bytes = (name : List ℕ) (x : Exported) → trie_finds bytes name x → Contains symbols (name, x)

-- What a trie's text for some symbols is: nothing for none, else their exports trie, of the size under the least widths. Look-up in it
-- finds each symbol, and nothing else.
pub record IsTextOf (trie : Trie) (names : List (List ℕ)) (symbols : List (List ℕ × Exported)) (text : List ℕ) : Type 0 where
  pub empty : symbols ≡ [] → text ≡ []
  pub tree : 1 ≤ length symbols → IsExportsTrie symbols text
  pub size : IsSizeOf trie names symbols (length text)
  pub found : FindsAll symbols text
  pub only : FindsOnly symbols text

-- Such a text, of so many bytes, was put at a place.
pub record IsWritten (trie : Trie) (names : List (List ℕ)) (symbols : List (List ℕ × Exported)) (at n : ℕ) (old new : List ℕ) : Type 0
  where
    pub text : List ℕ
    pub says : IsTextOf trie names symbols text
    pub long : length text ≡ n
    pub is : new ≡ put at text old
