use Rattle.std.proofs.Common.{arith}
use Rattle.macho_stub_lines.proofs.Cuts.{cut_behind}
use Rattle.macho_stub.proofs.reader.names_value.Goals as goal

pub after-requires : goal.after-requires
after-requires c = (cut_behind c.args.value.now 0 91 c.utf8.value (omega arith) (omega arith) (omega arith)).1
