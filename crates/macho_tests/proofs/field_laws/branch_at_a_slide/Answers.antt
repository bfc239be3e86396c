use Rattle.std.proofs.Common.{◌+◌, refl}
use Rattle.macho_tests.proofs.field_laws.branch_at_a_slide.Goals as goal

pub returns : goal.returns
returns c =
    c.fields_denote.ensures.fields.branches c.args.input c.args.word c.args.value c.args.place c.args.target c.args.slide
    (c.args.target + c.args.slide)
    c.requires.holds c.requires.leads refl
