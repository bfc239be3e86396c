use Rattle.std.proofs.Common.{map, refl, ap, ◌∙◌}
use Rattle.macho_commands.specs.Commands.{said_by}
use Rattle.macho_layout.specs.Placements.{placed_of}
use Rattle.macho_head.proofs.Sums.{each_fits, few, head_put}
use Rattle.macho_head.proofs.head.write_image_head.Goals as goal

pub write_head-requires-clause-fit : goal.write_head-requires-clause-fit
write_head-requires-clause-fit c =
    each_fits (placed_of c.args.placement.now) c.args.parts.now c.deref.result.now
    (ap (map said_by) c.deref.ensures.value ∙ c.in_ok-commands.ensures.said)
    c.requires.small

pub write_head-requires-clause-few : goal.write_head-requires-clause-few
write_head-requires-clause-few c =
    few (placed_of c.args.placement.now) c.args.parts.now c.deref.result.now
    (ap (map said_by) c.deref.ensures.value ∙ c.in_ok-commands.ensures.said)
    c.requires.small

pub returns-clause-done : goal.returns-clause-done
returns-clause-done c l counts uuid are =
    head_put l counts uuid (placed_of c.args.placement.now) c.args.parts.now c.deref.result.now _ _ _ are
    (ap (map said_by) c.deref.ensures.value
    ∙ c.in_ok-commands.ensures.said) refl c.describes_thread_locals.ensures c.write_head.ensures.done
    c.write_head.ensures.length c.write_head.ensures.found c.in_ok-commands.ensures.fit
