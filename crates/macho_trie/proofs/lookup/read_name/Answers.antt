use Rattle.std.proofs.Common.{sym, arith, eq-eqb}
use Rattle.std.proofs.lemmas.Bool.{eqb-true}
use Rattle.macho_trie.proofs.Terminals.{name_ends, name_goes_on}
use Rattle.macho_trie.proofs.lookup.read_name.Goals as goal

pub returns-in_err-end : goal.returns-in_err-end
returns-in_err-end c =
    rw c.from_residual.ensures
    (sym (name_goes_on c.args.bytes.now (λ i lt is. c.in_err-end.ensures i (omega arith) lt (eq-eqb _ 0 is))))

pub returns : goal.returns
returns c =
    let first = c.in_ok-end.ensures.0 in
    let lt = first.high in
    sym (name_ends c.args.bytes.now c.in_ok-end.end lt (λ i before is. first.before i (omega arith) before (eq-eqb _ 0 is))
    (eqb-true _ 0 c.in_ok-end.ensures.1))
