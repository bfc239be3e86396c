use Rattle.macho_trie.specs.Symbols.{names_of, symbols_of}
use Rattle.macho_tests.proofs.laws.size_of_a_trie.Goals as goal

pub returns : goal.returns
returns c n is =
    c.sizes_are_one.ensures c.args.trie.now (names_of c.args.symbols.now) (symbols_of c.args.symbols.now) n c.args.size is c.requires
