-- The search for a line feed says which bytes are none.
use Rattle.std.proofs.Common.{sym}
use Rattle.macho_archive.proofs.Lines.{line_is, line_none}
use Rattle.macho_archive.proofs.names.first_line.Goals as goal

pub returns-in_err-end : goal.returns-in_err-end
returns-in_err-end c = rw c.from_residual.ensures (sym (line_none c.args.text.now c.in_err-end.ensures))

pub returns : goal.returns
returns c = sym (line_is c.args.text.now c.in_ok-end.end c.in_ok-end.ensures.0 c.in_ok-end.ensures.1)
