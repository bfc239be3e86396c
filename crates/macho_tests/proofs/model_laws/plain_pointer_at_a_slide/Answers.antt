use Rattle.macho_tests.proofs.model_laws.plain_pointer_at_a_slide.Goals as goal

pub returns : goal.returns
returns c l p first second f =
    c.plain_pointers_stay.ensures l c.args.file.now p c.args.slide first second c.args.section f
