-- The imports of the tables that the walk passed fit.
use Rattle.std.proofs.Common.{ℕ, ◌-◌, ◌<◌}
use Rattle.macho_model.specs.Commands.{header_of}
use Rattle.macho_image_walks.specs.declared.walk.Listed.TheVariants as list
use Rattle.macho_image_walks.specs.steps.Asked.{TableImportsFit}
use Rattle.macho_loader.specs.steps.Cursors.{IsAt}
use Rattle.macho_loader.proofs.import_rules.first_bad_import.Given as goal

abbrev pub invariant-loop-step : goal.invariant-loop-step
invariant-loop-step l = IsAt list.Tables l.bytes l.at × ((k : ℕ) → k < l.at.number → TableImportsFit l.bytes k)

abbrev pub decreases-loop-step : goal.decreases-loop-step
decreases-loop-step l = (header_of l.bytes).ncmds - l.at.index
