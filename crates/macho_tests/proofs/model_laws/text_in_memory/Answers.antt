use Rattle.macho_tests.proofs.model_laws.text_in_memory.Goals as goal

pub returns : goal.returns
returns c choice =
    c.what_no_word_covers_is_held.ensures.texts c.args.file.now c.args.slide choice c.args.segment c.args.place c.args.text.now
    c.requires.free c.requires.one c.requires.inside c.requires.fits c.requires.stands
