-- So many have passed, and there are so many at least.
use Rattle.std.proofs.Common.{◌-◌, ◌≤◌, length}
use Rattle.macho_model.specs.Commands.{header_of}
use Rattle.macho_image_walks.specs.Readings.{listed}
use Rattle.macho_loader.specs.steps.Cursors.{IsAt}
use Rattle.macho_loader.proofs.cursor.count_listed.Given as goal

abbrev pub invariant-loop-step : goal.invariant-loop-step
invariant-loop-step l = IsAt l.list l.bytes l.at × (l.at.number ≤ length (listed l.list l.bytes))

abbrev pub decreases-loop-step : goal.decreases-loop-step
decreases-loop-step l = (header_of l.bytes).ncmds - l.at.index
