-- The files so far are the first inputs of the link.
use Rattle.std.proofs.Common.{◌<◌, ◌≤◌, [], length, take, get_or, refl, arith}
use Rattle.std.specs.List.{enumerate_from}
use Rattle.std.proofs.lemmas.Result.{err_from_is_err_and}
use Rattle.macho_model.specs.Links.{no_input}
use Rattle.macho_relocation_scan.specs.steps.Sections.{carried_in, uses_in, input_at}
use Rattle.macho_relocation_scan.proofs.Walking.{walked_more, walk_begins, inputs_join, uses_in_join, numbered_at}
use Rattle.macho_relocation_scan.proofs.Viewing.{nothing_yet, views_kept, whole_begins, whole_survey, sound_is, if_none, input_more, inputs_past, file_inside}
use Rattle.macho_relocation_scan.proofs.walk.survey.Goals as goal

pub loop-file-init : goal.loop-file-init
loop-file-init c = record {
  surveyed = λ l are noted. nothing_yet l c.args.needs.now _ c.new-findings.ensures noted;
  kept = λ inputs
      keeps. keeps;
}

pub survey_file-requires-clause-same : goal.survey_file-requires-clause-same
survey_file-requires-clause-same c =
    views_kept c.args.views.now c.args.needs.now.resolved.files c.loop-file.needs.resolved.files c.requires.same c.loop-file.invariant.kept

pub loop-file-preserved : goal.loop-file-preserved
loop-file-preserved c =
    let i = c.loop-file.file in
    let below : i < length c.args.views.now = omega arith in
    record {
      surveyed = λ l are noted.
          let xs = enumerate_from 0 l.inputs in
          let within = input_more l c.args.views.now i are below in
          let at = numbered_at l i (get_or l.inputs i no_input) (file_inside c.args.views.now l.inputs i are below) refl (input_at l i) in
          walked_more l (carried_in l) (uses_in l) (inputs_join l) (uses_in_join l) [] [] xs i (input_at l i) c.survey_file.new.needs
          c.survey_file.new.findings within at
          (c.in_ok-survey_file.ensures.surveyed l (carried_in l (take i xs)) (uses_in l (take i xs)) are
          (walk_begins l (uses_in l) (uses_in_join l) [] xs i (input_at l i) within at (whole_begins l))
          (c.loop-file.invariant.surveyed l are noted));
      kept = λ inputs keeps. c.in_ok-survey_file.ensures.kept inputs (c.loop-file.invariant.kept inputs keeps);
    }

pub returns-in_err-survey_file-clause-why : goal.returns-in_err-survey_file-clause-why
returns-in_err-survey_file-clause-why c l counts are noted =
    let i = c.loop-file.file in
    let below : i < length c.args.views.now = omega arith in
    let xs = enumerate_from 0 l.inputs in
    let within = input_more l c.args.views.now i are below in
    let at = numbered_at l i (get_or l.inputs i no_input) (file_inside c.args.views.now l.inputs i are below) refl (input_at l i) in
    let e = err_from_is_err_and c.from_residual.result c.from_residual.ensures.1 in
    rw (e.1, e.2)
    (c.in_err-survey_file.ensures.why l counts (carried_in l (take i xs)) (uses_in l (take i xs)) are
    (walk_begins l (uses_in l) (uses_in_join l) [] xs i (input_at l i) within at (whole_begins l))
    (c.loop-file.invariant.surveyed l are noted))

pub returns-clause-noted : goal.returns-clause-noted
returns-clause-noted c l are noted =
    let past : length c.args.views.now ≤ c.loop-file.file = omega arith in
    (whole_survey l c.loop-file.file c.loop-file.needs c.loop-file.findings (inputs_past l c.args.views.now c.loop-file.file are past)
    (c.loop-file.invariant.surveyed l are noted)).noted

pub returns-clause-told : goal.returns-clause-told
returns-clause-told c l counts are noted =
    let past : length c.args.views.now ≤ c.loop-file.file = omega arith in
    c.least.ensures.told l counts
    (whole_survey l c.loop-file.file c.loop-file.needs c.loop-file.findings (inputs_past l c.args.views.now c.loop-file.file are past)
    (c.loop-file.invariant.surveyed l are noted)).standing

pub returns-clause-sound : goal.returns-clause-sound
returns-clause-sound c l are noted =
    let past : length c.args.views.now ≤ c.loop-file.file = omega arith in
    let whole = whole_survey l c.loop-file.file c.loop-file.needs c.loop-file.findings
    (inputs_past l c.args.views.now c.loop-file.file are past) (c.loop-file.invariant.surveyed l are noted) in
    if_none c.least.result (sound_is l c.loop-file.needs c.loop-file.findings whole) c.least.ensures.none
