use Rattle.std.proofs.Common.{arith}
use Rattle.macho_stub.proofs.Listed.{name_put_in}
use Rattle.macho_stub.proofs.library.with_listed.Goals as goal

pub loop-name-preserved : goal.loop-name-preserved
loop-name-preserved c = λ name.
    name_put_in _ _ c.args.names.now c.loop-name.name-index _ name _ (omega arith) c.in_ok-insert.ensures.updates
    (c.loop-name.invariant name)
