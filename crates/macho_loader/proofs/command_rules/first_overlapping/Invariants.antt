-- The last segment that the walk passed is known, and those passed stand in order.
use Rattle.std.proofs.Common.{ℕ, ◌+◌, ◌-◌, ◌<◌, ◌≤◌}
use Rattle.macho_model.specs.Commands.{header_of}
use Rattle.macho_image_walks.specs.declared.walk.Listed.TheVariants as list
use Rattle.macho_image_walks.specs.Readings.{IsNth}
use Rattle.macho_image_walks.specs.steps.Asked.{NeighbourPasses}
use Rattle.macho_loader.specs.steps.Cursors.{IsAt}
use Rattle.macho_loader.proofs.command_rules.first_overlapping.Given as goal

abbrev pub invariant-loop-step : goal.invariant-loop-step
invariant-loop-step l =
    IsAt list.Segments l.bytes l.at × (1 ≤ l.at.number → IsNth list.Segments l.bytes (l.at.number - 1) l.last)
    × ((k : ℕ) → k + 1 < l.at.number → NeighbourPasses l.bytes k)

abbrev pub decreases-loop-step : goal.decreases-loop-step
decreases-loop-step l = (header_of l.bytes).ncmds - l.at.index
