-- The sections so far were taken care of.
use Rattle.macho_model.specs.Links.{Link}
use Rattle.macho_layout.specs.Placements.{placed_of}
use Rattle.macho_contents.specs.Fitting.{AreToFill}
use Rattle.macho_contents.specs.steps.Sections.{AreDone}
use Rattle.macho_contents.proofs.sections.fill_sections.Given as goal

abbrev pub invariant-loop-index : goal.invariant-loop-index
invariant-loop-index g l =
    (link : Link) → AreToFill link (placed_of l.placement) l.views (g.P.Places.look l.places)
    → AreDone link (placed_of l.placement) l.index l.initial.out l.out l.initial.run.items l.run.items
