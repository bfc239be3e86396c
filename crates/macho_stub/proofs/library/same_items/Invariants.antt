use Rattle.std.proofs.Common.{◌≡◌, drop}
use Rattle.macho_stub.specs.steps.Opened.{items_of}
use Rattle.macho_stub.specs.steps.Checks.{all_same, same_item}
use Rattle.macho_stub.proofs.library.same_items.Given as goal

abbrev pub invariant-loop-i : goal.invariant-loop-i
invariant-loop-i l = all_same same_item (drop l.i (items_of l.left)) (drop l.i (items_of l.right))
    ≡ all_same same_item (items_of l.left) (items_of l.right)
