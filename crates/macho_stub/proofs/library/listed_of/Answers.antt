use Rattle.std.proofs.Common.{arith}
use Rattle.macho_stub.proofs.Listed.{item_put_in}
use Rattle.macho_stub.proofs.library.listed_of.Goals as goal

pub loop-item-preserved : goal.loop-item-preserved
loop-item-preserved c = λ name.
    item_put_in name c.args.items.now c.loop-item.item-index c.item-item.result _ _ _ _ (omega arith) c.item-item.is
    c.as_slice.ensures.value (c.in_ok-listed.ensures.done name) (c.loop-item.invariant name)
