use Rattle.std.proofs.Common.{arith}
use Rattle.macho_trie.proofs.Terminals.{no_size, too_long, empty_part, by_part}
use Rattle.macho_trie.proofs.lookup.read_terminal.Goals as goal

pub returns-in_err-size-clause-is : goal.returns-in_err-size-clause-is
returns-in_err-size-clause-is c = rw c.from_residual.ensures (no_size c.args.bytes.now c.args.at c.in_err-size.ensures.value)

pub returns-then-size-bytes-clause-is : goal.returns-then-size-bytes-clause-is
returns-then-size-bytes-clause-is c =
    too_long c.args.bytes.now c.args.at _ c.in_ok-size.start c.in_ok-size.ensures.value (omega arith) (omega (
      arith,
      c.in_ok-size.ensures.found.within,
    ))

pub returns-then-size-eq0-clause-is : goal.returns-then-size-eq0-clause-is
returns-then-size-eq0-clause-is c =
    empty_part c.args.bytes.now c.args.at _ c.in_ok-size.start c.in_ok-size.ensures.value (omega (
      arith,
      c.in_ok-size.ensures.found.within,
    )) (omega arith)

pub returns-in_err-export-clause-is : goal.returns-in_err-export-clause-is
returns-in_err-export-clause-is c =
    rw c.from_residual-in_err-export.ensures
    (by_part c.args.bytes.now c.args.at _ c.in_ok-size.start _ c.in_ok-size.ensures.value (omega (
      arith,
      c.in_ok-size.ensures.found.within,
    )) (λ e. absurd (omega arith)) c.in_err-export.ensures)

pub returns-clause-is : goal.returns-clause-is
returns-clause-is c =
    by_part c.args.bytes.now c.args.at _ c.in_ok-size.start _ c.in_ok-size.ensures.value (omega (
      arith,
      c.in_ok-size.ensures.found.within,
    )) (λ e. absurd (omega arith)) c.in_ok-export.ensures
