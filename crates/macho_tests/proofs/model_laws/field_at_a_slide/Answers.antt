use Rattle.macho_tests.proofs.model_laws.field_at_a_slide.Goals as goal

pub returns : goal.returns
returns c l p first second f =
    c.fields_denote_at_every_slide.ensures.plain l c.args.file.now p c.args.slide first second c.args.section f c.requires
