use Rattle.macho_tests.proofs.field_laws.branch_in_reach.Goals as goal

pub returns : goal.returns
returns c = c.reaches_agree.ensures.fields.branches c.args.word c.args.place c.args.target
