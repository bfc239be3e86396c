use Rattle.std.proofs.Common.{◌≡◌, ◌++◌, arith, add-one}
use Rattle.macho_stub_lines.specs.Lists.{texts}
use Rattle.macho_stub.specs.steps.Opened.{item_of}
use Rattle.macho_stub.specs.steps.Checks.{texts_for_target}
use Rattle.macho_stub_lines.proofs.Bind.{same_ok}
use Rattle.macho_stub.proofs.Gather.{flat_more}
use Rattle.macho_stub.proofs.library.with_items.Goals as goal

pub loop-item-preserved : goal.loop-item-preserved
loop-item-preserved c =
    let e : texts c.loop-item.names.items ++ texts_for_target c.args.weak (item_of c.item-item.result)
    ≡ texts c.in_ok-names.names.items = same_ok _ _ c.in_ok-names.ensures in
    rw (add-one, ← e) (flat_more (texts_for_target c.args.weak) item_of (texts c.loop-item.names.items) _ c.args.items.now
    c.loop-item.item-index c.item-item.result (omega arith) c.item-item.is c.loop-item.invariant)
