-- The next section adds its part.
use Rattle.std.proofs.Common.{ap, ◌∙◌, ◌++◌, ◌∷◌, []}
use Rattle.macho_retool.specs.steps.PartLists.{section_part}
use Rattle.macho_retool.proofs.Lists.{range_goes_on}
use Rattle.macho_retool.proofs.parts.add_sections.Goals as goal

pub loop-number-preserved : goal.loop-number-preserved
loop-number-preserved c =
    range_goes_on (section_part c.args.bytes.now c.args.place) c.loop-number.number c.args.parts.now.items c.loop-number.parts.items
    c.push.new.self.items c.loop-number.invariant
    (c.in_ok-push.ensures.items ∙ ap (λ p. c.loop-number.parts.items ++ p ∷ []) c.section_part.ensures)
