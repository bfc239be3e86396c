use Rattle.std.proofs.Common.{arith}
use Rattle.macho_trie.proofs.Followed.{bad_is_malformed, one_followed, less_left, ends_whole}
use Rattle.macho_trie.proofs.names.Walk.follow.Goals as goal

pub returns-in_default-2 : goal.returns-in_default-2
returns-in_default-2 c = record {
  whole =
      bad_is_malformed c.args.self.now.bytes.now c.args.lines.now.are_kept c.loop-next.self c.loop-next.lines c.pop.new.self.items
      c.in-Some.next
      c.loop-next.invariant c.in-Some.ensures.items (rw c.in_default-2.is at c.in_ok-export.ensures.seen);
}

pub loop-next-smaller : goal.loop-next-smaller
loop-next-smaller c =
    less_left c.loop-next.self c.visit.new.self c.pop.new.self c.in-Some.next _ c.in-Some.ensures.items
    (rw c.in-Some-2.is at c.in_ok-export.ensures.seen)

pub loop-next-preserved : goal.loop-next-preserved
loop-next-preserved c =
    one_followed c.args.self.now.bytes.now c.args.lines.now.are_kept c.loop-next.self c.visit.new.self c.pop.new.self c.loop-next.lines
    c.add.new.self c.in-Some.next c.deref.result.now _ c.loop-next.invariant c.in-Some.ensures.items
    (rw c.in-Some-2.is at c.in_ok-export.ensures.seen) c.deref.ensures.value c.in_ok-add.ensures.flag c.in_ok-add.ensures.done

pub returns : goal.returns
returns c = record {
  whole =
      ends_whole c.args.self.now.bytes.now c.args.lines.now.are_kept c.loop-next.self c.loop-next.lines c.loop-next.invariant
      (omega (arith, c.in_default.ensures.cases.0, c.loop-next.self.pending.ok.0));
}
