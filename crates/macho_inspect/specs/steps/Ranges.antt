-- The range of an image's trie.
use Rattle.std.specs.Prelude.{◌≡◌, ℕ, List, [], ◌∷◌}
use Rattle.macho_model.specs.Commands.{Command}
use Rattle.macho_loader.specs.Lists.{range_of}
use Rattle.macho_loader.specs.declared.commands.LinkeditRange.{LinkeditRange}
use Rattle.macho_inspect.specs.Tries.{trie_commands}

-- a range is that of the one command
pub record IsOneTrie (b : List ℕ) (range : LinkeditRange) : Type 0 where
  pub command : Command
  pub one : trie_commands b ≡ command ∷ []
  pub is : range ≡ range_of b command
