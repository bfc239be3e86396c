use Rattle.std.proofs.Common.{true, false, sym, arith, add-one}
use Rattle.macho_stub.specs.steps.Opened.{item_of}
use Rattle.macho_stub.specs.steps.Checks.{same_item, same_items}
use Rattle.macho_stub.proofs.Same.{same_more, differs, all_agree, other_length, at_places}
use Rattle.macho_stub.proofs.library.same_items.Goals as goal

pub returns-then-left-right : goal.returns-then-left-right
unfolding same_items
returns-then-left-right c = sym (other_length same_item item_of c.args.left.now c.args.right.now c.if-left-right.true)

pub returns-then-not-same_item : goal.returns-then-not-same_item
unfolding same_items
returns-then-not-same_item c =
    let l = c.index-left-i.result in
    let r = c.index-right-i.result in
    differs same_item item_of c.args.left.now c.args.right.now c.loop-i.i l r _ (omega arith) (omega arith)
    (at_places same_item item_of c.args.left.now c.args.right.now c.loop-i.i l r false c.index-left-i.is c.index-right-i.is
    (sym c.if-not-same_item.ensures)) c.loop-i.invariant

pub loop-i-preserved : goal.loop-i-preserved
loop-i-preserved c =
    let l = c.index-left-i.result in
    let r = c.index-right-i.result in
    rw add-one (same_more same_item item_of c.args.left.now c.args.right.now c.loop-i.i l r _ (omega arith) (omega arith)
    (at_places same_item item_of c.args.left.now c.args.right.now c.loop-i.i l r true c.index-left-i.is c.index-right-i.is
    (sym c.if-not-same_item.ensures)) c.loop-i.invariant)

pub returns : goal.returns
unfolding same_items
returns c = all_agree same_item item_of c.args.left.now c.args.right.now c.loop-i.i _ (omega arith) c.if-left-right.false
    c.loop-i.invariant
