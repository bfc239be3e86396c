-- The words of the segments that the walk passed are listed.
use Rattle.std.proofs.Common.{◌-◌}
use Rattle.macho_model.specs.Commands.{header_of}
use Rattle.macho_image_walks.specs.declared.walk.Listed.TheVariants as list
use Rattle.macho_loader.specs.steps.Cursors.{IsAt}
use Rattle.macho_loader.specs.steps.Listing.{ListsSegments}
use Rattle.macho_loader.proofs.chain_list.list_words.Given as goal

abbrev pub invariant-loop-step : goal.invariant-loop-step
invariant-loop-step l = IsAt list.Segments l.bytes l.at × ListsSegments l.bytes l.at.number l.lines.items

abbrev pub decreases-loop-step : goal.decreases-loop-step
decreases-loop-step l = (header_of l.bytes).ncmds - l.at.index
