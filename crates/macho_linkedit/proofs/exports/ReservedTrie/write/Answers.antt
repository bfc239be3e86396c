-- The register has the names that room was kept for, so the tree is theirs, and its bytes fit.
use Rattle.std.proofs.Common.{List, ℕ, sym, subst, ◌∙◌, arith}
use Rattle.std.proofs.lemmas.Result.{IfOk-weaker}
use Rattle.macho_trie.specs.Tries.{IsTrieOf}
use Rattle.macho_linkedit.proofs.Reserving.{said_names, same_names, are_reserved, said_fits, trie_is_put}
use Rattle.macho_linkedit.proofs.exports.ReservedTrie.write.Goals as goal

pub write-requires-clause-trie : goal.write-requires-clause-trie
write-requires-clause-trie c =
    subst (λ (ns : List (List ℕ)). IsTrieOf c.args.self.now.trie ns)
    (same_names c.requires.reserved.0 c.args.exports.now c.requires.reserved.2 ∙ sym
    (said_names c.in_ok-symbols.symbols c.args.exports.now c.in_ok-symbols.ensures.are))
    c.requires.reserved.1.names

pub write-requires-clause-room : goal.write-requires-clause-room
write-requires-clause-room c n size =
    omega (
      arith,
      c.requires.room,
      said_fits c.args.self.now c.in_ok-symbols.symbols c.requires.reserved.0 c.args.exports.now n c.requires.reserved.1
          c.requires.reserved.2 (are_reserved c.args.exports.now c.requires.flags c.in_ok-symbols.ensures.small)
          c.in_ok-symbols.ensures.are size,
    )

pub returns-clause-done : goal.returns-clause-done
returns-clause-done c =
    IfOk-weaker c.write.result _ _ (λ n w. trie_is_put c.args.self.now c.in_ok-symbols.symbols c.requires.reserved.0 c.args.exports.now
    c.args.at n c.args.out.now c.write.new.out c.requires.reserved.1 c.requires.reserved.2
    (are_reserved c.args.exports.now c.requires.flags c.in_ok-symbols.ensures.small) c.in_ok-symbols.ensures.are w) c.write.ensures.done
