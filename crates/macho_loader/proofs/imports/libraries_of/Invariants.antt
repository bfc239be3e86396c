-- The names of the libraries that the walk passed are listed.
use Rattle.std.proofs.Common.{◌≡◌, ◌-◌, map, take}
use Rattle.macho_model.specs.Commands.{header_of}
use Rattle.macho_image_walks.specs.declared.walk.Listed.TheVariants as list
use Rattle.macho_image_walks.specs.Readings.{listed}
use Rattle.macho_loader.specs.steps.Cursors.{IsAt}
use Rattle.macho_loader.proofs.CommandLists.{library_in}
use Rattle.macho_loader.proofs.imports.libraries_of.Given as goal

abbrev pub invariant-loop-step : goal.invariant-loop-step
invariant-loop-step l =
    IsAt list.Libraries l.bytes l.at
    × (map (λ n. n.now) l.names.items ≡ take l.at.number (map (library_in l.bytes) (listed list.Libraries l.bytes)))

abbrev pub decreases-loop-step : goal.decreases-loop-step
decreases-loop-step l = (header_of l.bytes).ncmds - l.at.index
