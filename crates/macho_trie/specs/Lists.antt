-- The list of a trie's names.
use Rattle.std.specs.Prelude.{◌≡◌, ℕ, List, map, Contains}
use Rattle.std.specs.List.{All, AllPairs}
use Rattle.std.specs.Cmp.Lexicographic.{slice_cmp}
use Rattle.std.specs.Ordering.{nat_cmp}
use Rattle.std.specs.declared.cmp.Ordering.TheVariants.{Less}
use Rattle.macho_trie.specs.Exports.{Exported, exported_of}
use Rattle.macho_trie.specs.Lookup.{trie_finds}
use Rattle.macho_trie.specs.Walks.{IsMalformedAt}
use Rattle.macho_trie.specs.declared.names.NamedExport.{NamedExport}
use Rattle.macho_trie.specs.declared.names.TrieNames.{TrieNames}
use Rattle.macho_trie.specs.declared.names.TrieNames.TheVariants.{Listed, Malformed}

-- The names that look-up finds, each with its answer, and each once, since every name is less than all behind it.
pub record AreExports (bytes : List ℕ) (lines : List (List ℕ × Exported)) : Type 0 where
  pub rising : AllPairs (λ x y. slice_cmp nat_cmp x.0 y.0 ≡ Less) lines
  pub found : All (λ x. trie_finds bytes x.0 x.1) lines
  pub all : (name : List ℕ) (x : Exported) → trie_finds bytes name x → Contains lines (name, x)

-- a line of the list: a name, and what stands for it
abbrev pub line_of : NamedExport → List ℕ × Exported
line_of x = (x.name.items, exported_of x.export)

-- what is answered for a trie: its names, where it is malformed nowhere, or a place at which it is
abbrev pub IsListOf : List ℕ → TrieNames → Type 0
IsListOf bytes (Listed lines) = AreExports bytes (map line_of lines.items) × ((place : ℕ) → IsMalformedAt bytes place → ⊥)
IsListOf bytes (Malformed place) = IsMalformedAt bytes place
