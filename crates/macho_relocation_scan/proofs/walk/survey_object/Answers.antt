-- The sections so far are the first ones of the object.
use Rattle.std.proofs.Common.{◌≡◌, ◌<◌, ◌≤◌, ◌++◌, take, length, ap, ◌∙◌, arith, if◌then◌else◌}
use Rattle.std.proofs.lemmas.Result.{err_from_is_err_and}
use Rattle.macho_model.specs.Objects.{num_sections}
use Rattle.macho_model.specs.Links.{Object, sections_of_file, section_id}
use Rattle.macho_relocation_scan.specs.steps.Sections.{carried_among, uses_among}
use Rattle.macho_relocation_scan.proofs.Walking.{walked_more, walk_begins, walked_all, walked_none, carried_joins, uses_join, sections_long, section_of, rows_kept}
use Rattle.macho_relocation_scan.proofs.walk.survey_object.Goals as goal

pub loop-section-init : goal.loop-section-init
loop-section-init c = record {
  surveyed = λ l ss us has begins is. walked_none l ss us c.args.needs.now c.args.findings.now is;
  kept = λ inputs keeps. keeps;
}

pub survey_if_carried-requires-clause-rows : goal.survey_if_carried-requires-clause-rows
survey_if_carried-requires-clause-rows c =
    rows_kept c.args.needs.now.resolved.files c.loop-section.needs.resolved.files c.args.file c.args.object.now.bytes c.requires.rows
    c.loop-section.invariant.kept

pub loop-section-preserved : goal.loop-section-preserved
loop-section-preserved c =
    let count : c.num_sections-section-end.result ≡ num_sections c.args.object.now.bytes
    = c.num_sections-section-end.ensures ∙ ap (λ b. if b then 0 else num_sections c.args.object.now.bytes) c.requires.kind in
    let inside : c.loop-section.section < num_sections c.args.object.now.bytes = omega (arith, count) in
    let below : c.loop-section.section < length (sections_of_file c.args.file (Object c.args.object.now.bytes)) = omega
    (arith, inside, sections_long c.args.file c.args.object.now.bytes) in
    let at = section_of c.args.file c.args.object.now.bytes c.loop-section.section inside in
    record {
      surveyed = λ l ss us has begins is.
          walked_more l (carried_among l) (uses_among l) (carried_joins l) (uses_join l) ss us
          (sections_of_file c.args.file (Object c.args.object.now.bytes)) c.loop-section.section
          (section_id c.args.file c.loop-section.section) c.survey_if_carried.new.needs c.survey_if_carried.new.findings below at
          (c.in_ok-survey_if_carried.ensures.surveyed l (ss ++ carried_among l (take c.loop-section.section
          (sections_of_file c.args.file (Object c.args.object.now.bytes))))
          (us ++ uses_among l (take c.loop-section.section (sections_of_file c.args.file (Object c.args.object.now.bytes)))) has
          (walk_begins l (uses_among l) (uses_join l) us (sections_of_file c.args.file (Object c.args.object.now.bytes))
          c.loop-section.section (section_id c.args.file c.loop-section.section) below at begins)
          (c.loop-section.invariant.surveyed l ss us has begins is));
      kept = λ inputs keeps. c.in_ok-survey_if_carried.ensures.kept inputs (c.loop-section.invariant.kept inputs keeps);
    }

pub returns-in_err-survey_if_carried-clause-why : goal.returns-in_err-survey_if_carried-clause-why
returns-in_err-survey_if_carried-clause-why c l counts ss us has begins is =
    let count : c.num_sections-section-end.result ≡ num_sections c.args.object.now.bytes
    = c.num_sections-section-end.ensures ∙ ap (λ b. if b then 0 else num_sections c.args.object.now.bytes) c.requires.kind in
    let inside : c.loop-section.section < num_sections c.args.object.now.bytes = omega (arith, count) in
    let below : c.loop-section.section < length (sections_of_file c.args.file (Object c.args.object.now.bytes)) = omega
    (arith, inside, sections_long c.args.file c.args.object.now.bytes) in
    let at = section_of c.args.file c.args.object.now.bytes c.loop-section.section inside in
    let e = err_from_is_err_and c.from_residual.result c.from_residual.ensures.1 in
    rw (e.1, e.2)
    (c.in_err-survey_if_carried.ensures.why l counts (ss ++ carried_among l (take c.loop-section.section
    (sections_of_file c.args.file (Object c.args.object.now.bytes))))
    (us ++ uses_among l (take c.loop-section.section (sections_of_file c.args.file (Object c.args.object.now.bytes)))) has
    (walk_begins l (uses_among l) (uses_join l) us (sections_of_file c.args.file (Object c.args.object.now.bytes)) c.loop-section.section
    (section_id c.args.file c.loop-section.section) below at begins)
    (c.loop-section.invariant.surveyed l ss us has begins is))

pub returns-clause-surveyed : goal.returns-clause-surveyed
returns-clause-surveyed c l ss us has begins is =
    let count : c.num_sections-section-end.result ≡ num_sections c.args.object.now.bytes
    = c.num_sections-section-end.ensures ∙ ap (λ b. if b then 0 else num_sections c.args.object.now.bytes) c.requires.kind in
    let past : length (sections_of_file c.args.file (Object c.args.object.now.bytes)) ≤ c.loop-section.section = omega
    (arith, count, sections_long c.args.file c.args.object.now.bytes) in
    walked_all l (carried_among l) (uses_among l) ss us (sections_of_file c.args.file (Object c.args.object.now.bytes))
    c.loop-section.section c.loop-section.needs c.loop-section.findings past
    (c.loop-section.invariant.surveyed l ss us has begins is)
