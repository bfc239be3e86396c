-- The segments that the walk passed have no word there.
use Rattle.std.proofs.Common.{ℕ, ◌-◌, ◌<◌}
use Rattle.macho_model.specs.Commands.{header_of}
use Rattle.macho_image_walks.specs.declared.walk.Listed.TheVariants as list
use Rattle.macho_loader.specs.steps.Cursors.{IsAt}
use Rattle.macho_loader.specs.steps.Held.{NthHasNoWord}
use Rattle.macho_loader.proofs.fixups.word_held.Given as goal

abbrev pub invariant-loop-step : goal.invariant-loop-step
invariant-loop-step l = IsAt list.Segments l.bytes l.at × ((k : ℕ) → k < l.at.number → NthHasNoWord l.bytes k l.address)

abbrev pub decreases-loop-step : goal.decreases-loop-step
decreases-loop-step l = (header_of l.bytes).ncmds - l.at.index
