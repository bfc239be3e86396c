-- The section is looked at relocation by relocation, then as a whole.
use Rattle.std.proofs.Common.{◌≡◌, [], ◌∷◌, ◌++◌, nat_lt, sym, ap, ◌∙◌, subst}
use Rattle.std.proofs.lemmas.Result.{err_from_is_err_and}
use Rattle.macho_model.specs.Uses.{carried_uses}
use Rattle.macho_object.specs.Views.{RelocationBytes, section_count}
use Rattle.macho_relocation_scan.specs.declared.findings.Findings.{Findings}
use Rattle.macho_relocation_scan.specs.steps.Found.{first_of, IsSurveyed}
use Rattle.macho_relocation_scan.specs.steps.Overlaps.{IsFoundIn}
use Rattle.macho_relocation_scan.specs.steps.Sections.{id_of}
use Rattle.macho_relocation_scan.proofs.Overlapping.{overlap_more}
use Rattle.macho_relocation_scan.proofs.Walking.{carried_there, same_object, some_section}
use Rattle.macho_relocation_scan.proofs.section.survey_section.Goals as goal

pub returns-clause-surveyed : goal.returns-clause-surveyed
returns-clause-surveyed c l ss us has begins is =
    let b = c.args.object.now.bytes in
    let us_here = us ++ carried_uses l (id_of c.args.at) in
    let needs = c.survey_relocations.new.needs in
    let findings = c.survey_relocations.new.findings in
    let list : c.in-Some.list ≡ record { bytes = c.args.object.now.bytes; section = c.args.at.section }
    = some_section (nat_lt c.args.at.section (section_count c.args.object.now.is_dynamic b)) _ _ c.in-Some.ensures in
    let found : IsFoundIn b c.args.at.section c.in_ok-told.told = subst
    (λ (n : RelocationBytes). IsFoundIn n.bytes n.section c.in_ok-told.told) list c.in_ok-told.ensures in
    let walked = c.in_ok-are_apart.ensures.surveyed l ss us (same_object l c.args.at.file b has)
    (carried_there l c.args.at.file c.args.at.section b has c.requires.section.there c.requires.section.carried) begins is in
    let more = overlap_more l ss us_here needs findings c.args.at c.in_ok-told.told b has c.requires.section.there
    c.requires.section.carried found walked in
    let same = c.note_overlap.ensures ∙ ap (λ p. record findings { overlap = first_of findings.overlap p }) c.pair.ensures in
    subst (λ (f : Findings). IsSurveyed l (ss ++ id_of c.args.at ∷ []) us_here needs f) (sym same) more

pub returns-in_err-are_apart-clause-why : goal.returns-in_err-are_apart-clause-why
returns-in_err-are_apart-clause-why c l counts ss us has begins is =
    let b = c.args.object.now.bytes in
    let e = err_from_is_err_and c.from_residual.result c.from_residual.ensures.1 in
    rw (e.1, e.2)
    (c.in_err-are_apart.ensures.why l counts ss us (same_object l c.args.at.file b has)
    (carried_there l c.args.at.file c.args.at.section b has c.requires.section.there c.requires.section.carried) begins is)
