use Rattle.std.proofs.Common.{arith}
use Rattle.macho_stub_lines.proofs.Cuts.{cut_behind}
use Rattle.macho_stub_lines.proofs.list.token_front.Goals as goal

pub returns-in-44-clause-cut : goal.returns-in-44-clause-cut
returns-in-44-clause-cut c = rw c.mark.ensures.width
    (cut_behind c.args.text.now 0 44 c.utf8.text (omega arith) (omega arith) (omega arith)).1

pub returns-in-93-clause-cut : goal.returns-in-93-clause-cut
returns-in-93-clause-cut c = rw c.mark-in-93.ensures.width
    (cut_behind c.args.text.now 0 93 c.utf8.text (omega arith) (omega arith) (omega arith)).1
