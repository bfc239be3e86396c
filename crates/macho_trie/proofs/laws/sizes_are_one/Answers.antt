use Rattle.macho_trie.proofs.Encodes.{only_size}
use Rattle.macho_trie.proofs.laws.sizes_are_one.Goals as goal

pub returns : goal.returns
returns c trie names symbols m n first second = only_size trie names symbols n m second first
