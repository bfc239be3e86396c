use Rattle.std.proofs.Common.{◌≡◌, ◌++◌, drop}
use Rattle.std.specs.List.{flat_map}
use Rattle.macho_stub_lines.specs.Lists.{texts}
use Rattle.macho_stub.specs.steps.Opened.{items_of}
use Rattle.macho_stub.specs.steps.Checks.{texts_for_target}
use Rattle.macho_stub.proofs.library.with_items.Given as goal

abbrev pub invariant-loop-item : goal.invariant-loop-item
invariant-loop-item l = texts l.names.items ++ flat_map (texts_for_target l.weak) (drop l.item-index (items_of l.items))
    ≡ texts l.fn.names.items ++ flat_map (texts_for_target l.weak) (items_of l.items)
