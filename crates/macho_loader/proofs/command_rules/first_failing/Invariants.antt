-- Those that the walk passed pass.
use Rattle.std.proofs.Common.{ℕ, ◌-◌, ◌<◌}
use Rattle.macho_model.specs.Commands.{header_of}
use Rattle.macho_image_walks.specs.Tests.{list_of}
use Rattle.macho_image_walks.specs.steps.Asked.{NumberPasses}
use Rattle.macho_loader.specs.steps.Cursors.{IsAt}
use Rattle.macho_loader.proofs.command_rules.first_failing.Given as goal

abbrev pub invariant-loop-step : goal.invariant-loop-step
invariant-loop-step l = IsAt (list_of l.asked) l.bytes l.at × ((k : ℕ) → k < l.at.number → NumberPasses l.bytes l.asked k)

abbrev pub decreases-loop-step : goal.decreases-loop-step
decreases-loop-step l = (header_of l.bytes).ncmds - l.at.index
