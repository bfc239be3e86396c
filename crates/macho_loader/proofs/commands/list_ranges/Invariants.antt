-- The ranges of the commands with the number are listed, of those that the walk passed.
use Rattle.std.proofs.Common.{◌≡◌, ◌==◌, ◌-◌, map, take}
use Rattle.std.specs.Prelude.{filter}
use Rattle.macho_model.specs.Commands.{header_of}
use Rattle.macho_image_walks.specs.declared.walk.Listed.TheVariants as list
use Rattle.macho_image_walks.specs.Readings.{listed}
use Rattle.macho_loader.specs.steps.Cursors.{IsAt}
use Rattle.macho_loader.specs.Lists.{range_of}
use Rattle.macho_loader.proofs.commands.list_ranges.Given as goal

abbrev pub invariant-loop-step : goal.invariant-loop-step
invariant-loop-step l =
    IsAt list.All l.bytes l.at
    × (l.ranges.items ≡ map (range_of l.bytes) (filter (λ c. c.number == l.number) (take l.at.number (listed list.All l.bytes))))

abbrev pub decreases-loop-step : goal.decreases-loop-step
decreases-loop-step l = (header_of l.bytes).ncmds - l.at.index
