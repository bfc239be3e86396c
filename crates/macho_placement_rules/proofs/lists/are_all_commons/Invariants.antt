-- What holds before number k: the first k have the numbers from 0.
use Rattle.std.proofs.Common.{◌≡◌, ℕ, ◌<◌, get_or}
use Rattle.macho_model.specs.declared.placed.PlacedCommon.{PlacedCommon}
use Rattle.macho_placement_rules.proofs.lists.are_all_commons.Given as goal

abbrev pub invariant-loop-number : goal.invariant-loop-number
invariant-loop-number l = (k : ℕ) (d : PlacedCommon) → k < l.number → (get_or l.commons k d).id ≡ k
