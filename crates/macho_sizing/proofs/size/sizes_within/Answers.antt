-- What was counted are the sizes of the link.
use Rattle.std.proofs.Common.{sym, arith}
use Rattle.macho_model.specs.Needs.{imports_of}
use Rattle.macho_linkedit.proofs.CanList.{can_be_listed}
use Rattle.macho_sizing.proofs.Answered.{numbers_hold, counted_are, trie_counted, entry_small}
use Rattle.macho_sizing.proofs.size.sizes_within.Goals as goal

pub table_symbols-requires : goal.table_symbols-requires
table_symbols-requires c =
    let l = c.requires.link.0 in
    let of_link = c.requires.link.1 in
    can_be_listed l (imports_of l) c.args.asked.now.needs.now.resolved c.args.asked.now.objects.now of_link.read.resolved
    of_link.inputs.objects
    c.requires.sized.kinds (omega (arith, c.requires.counted.symbols, c.requires.within.symbols))

pub returns-clause-small : goal.returns-clause-small
returns-clause-small c =
    let l = c.requires.link.0 in
    let of_link = c.requires.link.1 in
    let listed = c.in_ok-symbols.ensures l (imports_of l) of_link.read.resolved of_link.inputs.objects in
    entry_small l c.in_ok-trie.trie.size c.in_ok-counts.counts (c.in_ok-counts.ensures l of_link c.requires.link.2 c.requires.link.3 listed)

pub returns-clause-done : goal.returns-clause-done
returns-clause-done c l of_link imports numbers symbols unwind =
    let listed = c.in_ok-symbols.ensures l (imports_of l) of_link.read.resolved of_link.inputs.objects in
    let exact = c.in_ok-trie.ensures.exact in
    let counted = counted_are l of_link.read.told c.args.asked.now.exports.now exact.0 c.in_ok-trie.trie.size c.in_ok-counts.counts
    of_link.read.exports exact.1 exact.2 (c.in_ok-counts.ensures l of_link imports unwind listed) in
    record {
      counted = counted;
      numbers = numbers_hold l c.in_ok-counts.counts c.args.numbers.now numbers symbols c.requires.within counted;
      listed = listed;
      reserved = c.in_ok-trie.ensures.reserved;
      room = sym (trie_counted l c.in_ok-trie.trie.size c.in_ok-counts.counts (c.in_ok-counts.ensures l of_link imports unwind listed));
    }
