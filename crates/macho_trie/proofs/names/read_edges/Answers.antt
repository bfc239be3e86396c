use Rattle.macho_trie.proofs.EdgeLists.{few_more, goes_on, breaks_off, ends}
use Rattle.macho_trie.proofs.names.read_edges.Goals as goal

pub returns-in_default-clause-read : goal.returns-in_default-clause-read
returns-in_default-clause-read c =
    breaks_off c.args.bytes.now c.args.count c.loop-edge.edge c.loop-edge.place c.loop-edge.edges.items _ c.loop-edge-test.true
    c.in_default.ensures.is c.loop-edge.invariant.same

pub loop-edge-preserved : goal.loop-edge-preserved
loop-edge-preserved c = record {
  within = c.in-Some.ensures.within;
  few = few_more c.loop-edge.edges.items c.push.new.self.items _ c.loop-edge.edge c.in_ok-push.ensures.items c.loop-edge.invariant.few;
  same =
      goes_on c.args.bytes.now c.args.count c.loop-edge.edge c.loop-edge.place c.in-Some.next c.loop-edge.edges.items c.push.new.self.items
      _ _
      c.loop-edge-test.true c.in-Some.ensures.is c.in_ok-push.ensures.items c.loop-edge.invariant.same;
}

pub returns-clause-read : goal.returns-clause-read
returns-clause-read c =
    ends c.args.bytes.now c.args.count c.loop-edge.edge c.loop-edge.place c.loop-edge.edges.items _ c.loop-edge-test.false
    c.loop-edge.invariant.same
