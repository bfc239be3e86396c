use Rattle.std.proofs.Common.{◌≡◌, ◌||◌, ℕ, List, drop}
use Rattle.macho_stub.specs.steps.Opened.{items_of}
use Rattle.macho_stub.specs.steps.Checks.{holds, is_listed}
use Rattle.macho_stub.proofs.library.listed_of.Given as goal

abbrev pub invariant-loop-item : goal.invariant-loop-item
invariant-loop-item l = (name : List ℕ) → (holds l.listed name || is_listed name (drop l.item-index (items_of l.items)))
    ≡ is_listed name (items_of l.items)
