-- A section that isn't carried adds nothing.
use Rattle.std.proofs.Common.{List, ◌++◌, nat_lt, sym, ap, ◌∙◌, subst}
use Rattle.macho_model.specs.Objects.{section_at}
use Rattle.macho_model.specs.Links.{is_carried, section_id}
use Rattle.macho_model.specs.Uses.{Use}
use Rattle.macho_promise.specs.Noted.{BeginsWith}
use Rattle.macho_object.specs.Views.{section_count}
use Rattle.macho_needs.proofs.Pointers.{on_ok}
use Rattle.macho_relocation_scan.proofs.Walking.{same_object, some_section, is_carried_one, one_uses}
use Rattle.macho_relocation_scan.proofs.walk.survey_if_carried.Goals as goal

pub returns-clause-why : goal.returns-clause-why
returns-clause-why c l counts ss us has begins is =
    let header = some_section (nat_lt c.args.section (section_count c.args.object.now.is_dynamic c.args.object.now.bytes)) _ _
    c.in-Some.ensures in
    let carried = ap (λ b. is_carried (section_at b c.args.section)) (same_object l c.args.file c.args.object.now.bytes has)
    ∙ sym (c.is_carried.ensures ∙ ap is_carried header) ∙ c.if-not-is_carried.false in
    c.survey_section.ensures.why l counts ss us has
    (subst (λ (ws : List Use). BeginsWith l (us ++ ws)) (one_uses l (section_id c.args.file c.args.section) carried) begins) is

pub returns-clause-surveyed : goal.returns-clause-surveyed
returns-clause-surveyed c l ss us has begins is =
    let header = some_section (nat_lt c.args.section (section_count c.args.object.now.is_dynamic c.args.object.now.bytes)) _ _
    c.in-Some.ensures in
    let carried = ap (λ b. is_carried (section_at b c.args.section)) (same_object l c.args.file c.args.object.now.bytes has)
    ∙ sym (c.is_carried.ensures ∙ ap is_carried header) ∙ c.if-not-is_carried.false in
    on_ok c.survey_section.result (is_carried_one l ss us (section_id c.args.file c.args.section) c.survey_section.new.needs
    c.survey_section.new.findings carried)
    (c.survey_section.ensures.surveyed l ss us has
    (subst (λ (ws : List Use). BeginsWith l (us ++ ws)) (one_uses l (section_id c.args.file c.args.section) carried) begins) is)
