use Rattle.std.proofs.Common.{arith}
use Rattle.macho_trie.specs.steps.Stacks.{pending_at}
use Rattle.macho_trie.proofs.EdgeLists.{none_pushed, one_pushed}
use Rattle.macho_trie.proofs.names.push_children.Goals as goal

pub loop-left-init : goal.loop-left-init
loop-left-init c = record { within = omega arith; pushed = none_pushed (pending_at c.args.kept) c.args.edges.now c.args.pending.now.items }

pub loop-left-preserved : goal.loop-left-preserved
loop-left-preserved c = record {
  within = omega (arith, c.loop-left.invariant.within);
  pushed =
      one_pushed (pending_at c.args.kept) c.args.edges.now c.args.pending.now.items c.loop-left.pending.items c.push.new.self.items
      c.loop-left.left _ c.loop-left-test.true c.loop-left.invariant.within c.in_ok-push.ensures.items c.loop-left.invariant.pushed;
}
