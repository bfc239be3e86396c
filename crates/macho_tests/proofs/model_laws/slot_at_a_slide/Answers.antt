use Rattle.macho_tests.proofs.model_laws.slot_at_a_slide.Goals as goal

pub returns : goal.returns
returns c l p first choice word x moves at same =
    c.slots_stand_at_every_slide.ensures.moved l c.args.file.now p first c.args.slot word x moves c.requires at same c.args.slide choice
