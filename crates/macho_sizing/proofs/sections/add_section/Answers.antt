use Rattle.std.proofs.Common.{sym, subst, ◌∙◌}
use Rattle.macho_layout.specs.Plans.{MayStand}
use Rattle.macho_sizing.proofs.Standing.{may_stand}
use Rattle.macho_sizing.proofs.sections.add_section.Goals as goal

pub add_section-requires-clause-place : goal.add_section-requires-clause-place
add_section-requires-clause-place c =
    subst MayStand (sym c.spec_for.ensures) (may_stand c.args.file c.args.section c.args.header.now c.requires
    (sym c.is_carried.ensures ∙ c.if-is_carried.true))
