use Rattle.std.proofs.Common.{arith}
use Rattle.macho_stub_lines.proofs.Cuts.{cut_behind}
use Rattle.macho_stub_lines.proofs.list.gap.Goals as goal

pub returns-else-byte_at-eq35-clause-cut : goal.returns-else-byte_at-eq35-clause-cut
returns-else-byte_at-eq35-clause-cut c = rw c.mark-else-byte_at-eq35.ensures.width
    (cut_behind c.args.text.now 0 32 c.utf8.text c.requires (omega arith) (omega arith)).1
