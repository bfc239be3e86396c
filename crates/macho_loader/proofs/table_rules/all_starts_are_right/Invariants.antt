-- The walk stands before the segment with the number; the starts of those before it are right.
use Rattle.std.proofs.Common.{◌≡◌, ◌<◌, ℕ, true}
use Rattle.macho_model.specs.LoadRules.{starts_fit}
use Rattle.macho_image_walks.specs.declared.walk.Listed.TheVariants as list
use Rattle.macho_image_walks.specs.Readings.{table_there}
use Rattle.macho_loader.specs.steps.Cursors.{IsAt}
use Rattle.macho_loader.proofs.table_rules.all_starts_are_right.Given as goal

abbrev pub invariant-loop-number : goal.invariant-loop-number
invariant-loop-number l =
    IsAt list.Segments l.bytes l.at × (l.at.number ≡ l.number)
    × ((k : ℕ) → k < l.number → starts_fit l.bytes (table_there l.bytes l.place) k ≡ true)
