use Rattle.macho_tests.proofs.model_laws.segment_of_an_address.Goals as goal

pub returns : goal.returns
returns c =
    c.segments_are_apart.ensures c.args.file.now c.args.segment c.args.other c.args.address c.requires.accepted c.requires.one
    c.requires.another c.requires.holds c.requires.holds_too
