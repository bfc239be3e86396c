use Rattle.std.proofs.Common.{arith}
use Rattle.macho_stub_lines.proofs.Cuts.{cut_behind}
use Rattle.macho_stub_lines.proofs.scalar.scalar_front.Goals as goal

pub after-requires : goal.after-requires
after-requires c = (cut_behind c.args.text.now 0 39 c.utf8.text (omega arith) (omega arith) (omega arith)).1

pub after-requires-in-34 : goal.after-requires-in-34
after-requires-in-34 c = (cut_behind c.args.text.now 0 34 c.utf8.text (omega arith) (omega arith) (omega arith)).1
