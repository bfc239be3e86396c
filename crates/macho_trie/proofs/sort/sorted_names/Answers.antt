use Rattle.std.proofs.Common.{length, ap, arith}
use Rattle.std.proofs.lemmas.List.{length-map}
use Rattle.macho_trie.specs.Symbols.{names_of}
use Rattle.macho_trie.proofs.Sorting.{numbered_more, are_sorted}
use Rattle.macho_trie.proofs.sort.sorted_names.Goals as goal

pub loop-symbol-preserved : goal.loop-symbol-preserved
loop-symbol-preserved c =
    numbered_more c.args.symbols.now.items.items c.deref-item-items.result.now c.loop-symbol.names.items c.push.new.self.items
    c.loop-symbol.symbol _ c.loop-symbol.invariant c.in_ok-push.ensures.items c.deref-item-items.ensures.value
    (omega (arith, ap length c.deref-item-items.ensures.value))

pub returns : goal.returns
returns c =
    are_sorted (names_of c.args.symbols.now) c.loop-symbol.names.items c.sort.new.self.items c.loop-symbol.symbol c.requires
    (omega (arith, ap length c.deref-item-items.ensures.value, length-map c.args.symbols.now.items.items (λ i. i.name.now)))
    c.loop-symbol.invariant c.in_ok-sort.ensures.permutation c.in_ok-sort.ensures.sorted
