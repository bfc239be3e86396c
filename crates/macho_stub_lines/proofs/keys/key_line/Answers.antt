use Rattle.std.proofs.Common.{arith}
use Rattle.macho_stub_lines.proofs.Cuts.{cut_behind}
use Rattle.macho_stub_lines.proofs.keys.key_line.Goals as goal

pub after-requires : goal.after-requires
after-requires c = (cut_behind c.args.text.now c.key_len-len.result 58 c.utf8.text (omega arith) (omega arith) (omega arith)).1
