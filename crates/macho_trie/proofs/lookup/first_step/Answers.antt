use Rattle.std.proofs.Common.{◌∙◌}
use Rattle.macho_trie.proofs.Edges.{goes_on, breaks_off, ends, all_behind_none}
use Rattle.macho_trie.specs.Nodes.{edges_at}
use Rattle.macho_trie.proofs.lookup.first_step.Goals as goal

pub returns-in_err-label-clause-is : goal.returns-in_err-label-clause-is
returns-in_err-label-clause-is c =
    rw c.from_residual.ensures
    (breaks_off c.args.bytes.now c.args.rest.now c.args.count c.loop-edge.edge c.loop-edge.place c.loop-edge.step _ c.loop-edge-test.true
    c.in_err-label.ensures.is c.loop-edge.invariant.same
    ∙ all_behind_none c.args.rest.now (edges_at c.args.count c.args.bytes.now c.args.at))

pub loop-edge-preserved : goal.loop-edge-preserved
loop-edge-preserved c = record {
  within = c.in_ok-label.ensures.within;
  part = c.note-step.ensures.part c.loop-edge.invariant.part;
  same = goes_on c.args.bytes.now c.args.rest.now c.args.count c.loop-edge.edge c.loop-edge.place c.in_ok-label.next c.loop-edge.step _ _ _
      c.loop-edge-test.true c.in_ok-label.ensures.is c.note-step.ensures.is c.loop-edge.invariant.same;
}

pub returns-clause-is : goal.returns-clause-is
returns-clause-is c =
    ends c.args.bytes.now c.args.rest.now c.args.count c.loop-edge.edge c.loop-edge.place c.loop-edge.step _ c.loop-edge-test.false
    c.loop-edge.invariant.same
    ∙ all_behind_none c.args.rest.now (edges_at c.args.count c.args.bytes.now c.args.at)
