-- Behind the text stands nothing.
use Rattle.std.proofs.Common.{sym, arith}
use Rattle.macho_archive.proofs.Lines.{line_behind}
use Rattle.macho_archive.proofs.names.line_at.Goals as goal

pub returns-then-offset-text : goal.returns-then-offset-text
returns-then-offset-text c = sym (line_behind c.args.text.now c.args.offset (omega arith))
