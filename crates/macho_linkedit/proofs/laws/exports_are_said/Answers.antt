use Rattle.macho_linkedit.proofs.TrieSaid.{trie_size_is_kept, trie_is_said}
use Rattle.macho_linkedit.proofs.laws.exports_are_said.Goals as goal

pub returns : goal.returns
returns c = record { size = trie_size_is_kept; trie = trie_is_said }
