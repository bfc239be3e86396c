-- The words of the segments that the walk passed fit, and the records that are kept have no start.
use Rattle.std.proofs.Common.{ℕ, ◌-◌, ◌<◌}
use Rattle.macho_model.specs.Commands.{header_of}
use Rattle.macho_image_walks.specs.declared.walk.Listed.TheVariants as list
use Rattle.macho_image_walks.specs.steps.WordTests.{FitOnNth}
use Rattle.macho_loader.specs.steps.Blank.{AreBlank}
use Rattle.macho_loader.specs.steps.Cursors.{IsAt}
use Rattle.macho_loader.proofs.word_rules.first_unfit_in.Given as goal

abbrev pub invariant-loop-step : goal.invariant-loop-step
invariant-loop-step l = record {
  at : IsAt list.Segments l.bytes l.at;
  blank : AreBlank l.bytes l.fn.table l.blank;
  fit : (k : ℕ) → k < l.at.number → FitOnNth l.bytes k;
}

abbrev pub decreases-loop-step : goal.decreases-loop-step
decreases-loop-step l = (header_of l.bytes).ncmds - l.at.index
