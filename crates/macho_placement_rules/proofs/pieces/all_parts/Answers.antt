-- All parts of a placement: those that were made, of the plan's sections and commons, are the pieces of the placement, and more than its
-- sections.
use Rattle.macho_layout.specs.Placements.{placed_of}
use Rattle.macho_placement_rules.proofs.AllPieces.{made_from}
use Rattle.macho_placement_rules.proofs.MadeLong.{made_long}
use Rattle.macho_placement_rules.proofs.pieces.all_parts.Goals as goal

pub returns-clause-found : goal.returns-clause-found
returns-clause-found c = λ l p plan sections commons whole.
    made_from l p c.args.counts.now (placed_of c.args.placement.now) c.args.sections.now c.args.commons.now _ plan sections commons whole
    c.in_ok-parts.ensures

pub returns-clause-long : goal.returns-clause-long
returns-clause-long c =
    made_long c.args.counts.now (placed_of c.args.placement.now) c.args.sections.now c.args.commons.now _ c.in_ok-parts.ensures
