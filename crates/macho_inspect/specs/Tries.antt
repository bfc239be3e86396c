-- The exports trie of an image (`mach-o/loader.h`, LC_DYLD_EXPORTS_TRIE), and where it is malformed.
use Rattle.std.specs.Prelude.{◌≡◌, ℕ, ◌+◌, ◌-◌, ◌^◌, ◌<◌, ◌≤◌, List, [], ◌∷◌, length, min, slice_range}
use Rattle.macho_records.specs.declared.constants.TheConstants.{LC_DYLD_EXPORTS_TRIE}
use Rattle.macho_model.specs.Commands.{Command, numbered}
use Rattle.macho_model.specs.Images.{Table, table_of_command, tries_of}
use Rattle.macho_model.specs.Lists.{IsNumber, of_first}
use Rattle.macho_trie.specs.Walks.{IsMalformedAt}

-- the bytes of a range of the file
abbrev pub bytes_in : List ℕ → Table → List ℕ
bytes_in b t = slice_range b t.at (t.at + t.size)

-- the bytes of the trie: the range that its command gives; none without a command
unfoldable pub trie_of : List ℕ → List ℕ
trie_of b = of_first [] (bytes_in b) (tries_of b)

-- the commands that give a trie
abbrev pub trie_commands : List ℕ → List Command
trie_commands b = numbered LC_DYLD_EXPORTS_TRIE b

-- The trie of an image is malformed, at a file offset: there is a second command, told at that command; or the range of the one command
-- has a byte behind the file's end, told at the command; or the walk over its bytes meets something wrong, told at that node. (A node that
-- would stand at 2 ^ 64 or behind is told at the last offset below.)
pub data IsTrieMalformed (b : List ℕ) (place : ℕ) : Type 0 where
  second : (k : ℕ) (c : Command) → 1 ≤ k → IsNumber (trie_commands b) k c → place ≡ c.at → IsTrieMalformed b place
  passes : (c : Command) → trie_commands b ≡ c ∷ [] → 0 < (table_of_command b c).size
      → length b < (table_of_command b c).at + (table_of_command b c).size → place ≡ c.at → IsTrieMalformed b place
  node : (c : Command) (at : ℕ) → trie_commands b ≡ c ∷ [] → (table_of_command b c).at + (table_of_command b c).size ≤ length b
      → IsMalformedAt (bytes_in b (table_of_command b c)) at → place ≡ min ((table_of_command b c).at + at) (2 ^ 64 - 1)
      → IsTrieMalformed b place
