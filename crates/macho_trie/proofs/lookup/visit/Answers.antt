use Rattle.macho_trie.proofs.Finding.{no_terminal, no_edges, visited}
use Rattle.macho_trie.proofs.lookup.visit.Goals as goal

pub returns-in_err-export-clause-seen : goal.returns-in_err-export-clause-seen
returns-in_err-export-clause-seen c = rw c.from_residual.ensures (no_terminal c.args.bytes.now c.args.at c.in_err-export.ensures.is)

pub returns-in_err-step-clause-seen : goal.returns-in_err-step-clause-seen
returns-in_err-step-clause-seen c =
    rw c.from_residual-in_err-step.ensures
    (no_edges c.args.bytes.now c.args.rest.now c.args.at c.in_ok-export.end _ c.in_ok-export.ensures.is c.in_err-step.ensures.is)

pub returns-clause-seen : goal.returns-clause-seen
returns-clause-seen c =
    visited c.args.bytes.now c.args.rest.now c.args.at c.in_ok-export.end _ _ c.in_ok-export.ensures.is c.in_ok-step.ensures.is
