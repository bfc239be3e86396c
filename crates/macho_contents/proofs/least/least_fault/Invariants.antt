-- The fault that is told so far stands.
use Rattle.macho_model.specs.Links.{Link}
use Rattle.macho_layout.specs.Placements.{placed_of}
use Rattle.macho_fields.specs.Faults.{FillStands}
use Rattle.macho_contents.specs.Fitting.{AreToFill}
use Rattle.macho_contents.proofs.least.least_fault.Given as goal

abbrev pub invariant-loop-index : goal.invariant-loop-index
invariant-loop-index g l =
    (link : Link) → AreToFill link (placed_of l.placement) l.views (g.P.Places.look l.places)
    → FillStands link (placed_of l.placement) l.fn.met → FillStands link (placed_of l.placement) l.told
