use Rattle.macho_trie.proofs.Edges.{no_label, by_child}
use Rattle.macho_trie.proofs.lookup.read_edge.Goals as goal

pub returns-in_err-label-clause-is : goal.returns-in_err-label-clause-is
returns-in_err-label-clause-is c = rw c.from_residual.ensures (no_label c.args.bytes.now c.args.at c.in_err-label.ensures)

pub returns-in_err-child-clause-is : goal.returns-in_err-child-clause-is
returns-in_err-child-clause-is c =
    rw c.from_residual-in_err-child.ensures
    (by_child c.args.bytes.now c.in_ok-label.label.now c.args.at _ c.in_ok-label.ensures c.in_err-child.ensures.value)

pub returns-clause-is : goal.returns-clause-is
returns-clause-is c = by_child c.args.bytes.now c.in_ok-label.label.now c.args.at _ c.in_ok-label.ensures c.in_ok-child.ensures.value
