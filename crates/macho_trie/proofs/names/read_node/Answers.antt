use Rattle.macho_trie.proofs.EdgeLists.{no_terminal_part, no_edges, whole_node}
use Rattle.macho_trie.proofs.names.read_node.Goals as goal

pub returns-in_default-clause-read : goal.returns-in_default-clause-read
returns-in_default-clause-read c = no_terminal_part c.args.bytes.now c.args.at c.in_default.ensures.is

pub returns-then-not-branch-clause-read : goal.returns-then-not-branch-clause-read
returns-then-not-branch-clause-read c =
    no_edges c.args.bytes.now c.args.at c.in-Some.end _ c.in-Some.ensures.is (rw c.if-not-branch.true at c.in_ok-read_edges.ensures.read)

pub returns-clause-read : goal.returns-clause-read
returns-clause-read c =
    whole_node c.args.bytes.now c.args.at c.in-Some.end _ _ c.in-Some.ensures.is
    (rw c.if-not-branch.false at c.in_ok-read_edges.ensures.read)
