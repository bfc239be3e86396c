use Rattle.macho_tests.proofs.model_laws.byte_at_a_slide.Goals as goal

pub returns : goal.returns
returns c first second =
    c.memory_moves_by_the_slide.ensures.there c.args.file.now c.args.slide first second c.args.address c.args.value c.requires
