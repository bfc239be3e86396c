use Rattle.macho_trie.proofs.Followed.{bad_mark, bad_edges}
use Rattle.macho_trie.proofs.names.Walk.visit.Goals as goal
use Rattle.macho_trie.proofs.names.Walk.visit.Goals.{then-not-are_ordered-via-then-not-are_ordered, then-not-are_ordered-via-else-not-are_ordered+then-not-mark}

pub returns-then-not-are_ordered : goal.returns-then-not-are_ordered
returns-then-not-are_ordered c =
    elim c.then-not-are_ordered.branch [
      | then-not-are_ordered-via-then-not-are_ordered w ↦ record {
        seen =
            bad_edges c.args.self.now.bytes.now c.args.self.now.met.items c.args.next.place _
            (rw c.in-Some.is at c.in_ok-export.ensures.read)
            w.if-not-are_ordered.ensures.joined;
      }
      | then-not-are_ordered-via-else-not-are_ordered+then-not-mark w ↦ record {
        seen =
            bad_mark c.args.self.now.bytes.now c.args.self.now.met.items w.deref_mut.result.now c.args.next.place w.deref_mut.ensures.value
            w.if-not-mark.ensures.bad;
      }
    ]
