use Rattle.macho_trie.proofs.Terminals.{no_flags, no_number, is_value, by_name}
use Rattle.macho_trie.proofs.lookup.read_export.Goals as goal

pub returns-in_err-flags : goal.returns-in_err-flags
returns-in_err-flags c = rw c.from_residual.ensures (no_flags c.args.part.now c.in_err-flags.ensures.value)

pub returns-in_err-number : goal.returns-in_err-number
returns-in_err-number c =
    rw c.from_residual-in_err-number.ensures
    (no_number c.args.part.now c.in_ok-flags.flags c.in_ok-flags.at c.in_ok-flags.ensures.value c.in_err-number.ensures.value)

pub returns-then-flags-eq0 : goal.returns-then-flags-eq0
returns-then-flags-eq0 c =
    is_value c.args.part.now c.in_ok-flags.flags c.in_ok-flags.at c.in_ok-number.number c.in_ok-number.at
    c.in_ok-flags.ensures.value c.in_ok-number.ensures.value c.if-flags-eq0.true

pub returns-in_err-name : goal.returns-in_err-name
returns-in_err-name c =
    rw c.from_residual-in_err-name.ensures
    (by_name c.args.part.now c.in_ok-flags.flags c.in_ok-flags.at c.in_ok-number.number c.in_ok-number.at _
    c.in_ok-flags.ensures.value c.in_ok-number.ensures.value c.if-flags-eq0.false c.in_err-name.ensures)

pub returns : goal.returns
returns c =
    by_name c.args.part.now c.in_ok-flags.flags c.in_ok-flags.at c.in_ok-number.number c.in_ok-number.at _
    c.in_ok-flags.ensures.value c.in_ok-number.ensures.value c.if-flags-eq0.false c.in_ok-name.ensures
