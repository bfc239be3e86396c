-- Adds the sections.
--
-- One section more is one part more.
use Rattle.std.proofs.Common.{ℕ, get_or}
use Rattle.macho_placement_rules.specs.steps.Pieces.{section_part, no_section, no_spec}
use Rattle.macho_placement_rules.proofs.AllPieces.{one_more_part}
use Rattle.macho_placement_rules.proofs.pieces.push_sections.Goals as goal

pub loop-number-preserved : goal.loop-number-preserved
loop-number-preserved c =
    let n = c.loop-number.number in
    let qs = c.args.sections.now in
    let ss = c.args.specs.now in
    one_more_part (λ (k : ℕ). section_part c.args.template (get_or qs k no_section) (get_or ss k no_spec)) _ _ _ n _
    c.loop-number.invariant c.in_ok-push.ensures.items
    c.section_part.ensures
