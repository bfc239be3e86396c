use Rattle.std.proofs.Common.{arith, ◌+◌, ◌-◌, ◌≡◌}
use Rattle.macho_stub_lines.proofs.Cuts.{cut_behind}
use Rattle.macho_stub_lines.proofs.scalar.single_front.Goals as goal

pub returns-clause-cut : goal.returns-clause-cut
returns-clause-cut c =
    let n = c.single_len-len.result in
    let e : n + 2 - 1 ≡ n + 1 = omega arith in
    rw e (cut_behind c.args.text.now n 39 c.utf8.text (omega arith) (omega arith) (omega arith)).1
