-- The segments that the walk passed are listed.
use Rattle.std.proofs.Common.{◌≡◌, ◌-◌, map, take}
use Rattle.macho_model.specs.Loader.{segment_in}
use Rattle.macho_model.specs.Commands.{header_of}
use Rattle.macho_image_walks.specs.declared.walk.Listed.TheVariants as list
use Rattle.macho_image_walks.specs.Readings.{listed}
use Rattle.macho_loader.specs.steps.Cursors.{IsAt}
use Rattle.macho_loader.proofs.commands.list_segments.Given as goal

abbrev pub invariant-loop-step : goal.invariant-loop-step
invariant-loop-step l =
    IsAt list.Segments l.bytes l.at × (l.segments.items ≡ take l.at.number (map (segment_in l.bytes) (listed list.Segments l.bytes)))

abbrev pub decreases-loop-step : goal.decreases-loop-step
decreases-loop-step l = (header_of l.bytes).ncmds - l.at.index
