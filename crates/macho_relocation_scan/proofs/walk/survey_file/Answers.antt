-- A file that is no object has no sections.
use Rattle.std.proofs.Common.{None, Some}
use Rattle.macho_model.specs.Links.{Object}
use Rattle.macho_needs.proofs.Pointers.{on_ok}
use Rattle.macho_relocation_scan.proofs.Viewing.{view_says, view_at, has_rows, has_object, file_more, file_begins, file_none}
use Rattle.macho_relocation_scan.proofs.Walking.{walked_none}
use Rattle.macho_relocation_scan.proofs.walk.survey_file.Goals as goal

pub survey_object-requires-clause-kind : goal.survey_object-requires-clause-kind
survey_object-requires-clause-kind c =
    (view_says _ c.in-Some.object (view_at c.args.views.now c.requires.same.inputs c.args.file c.index-views-file.result
    (Some c.in-Some.object) c.requires.same.are c.requires.there
    c.index-views-file.is c.in-Some.is)).1

pub survey_object-requires-clause-rows : goal.survey_object-requires-clause-rows
survey_object-requires-clause-rows c =
    has_rows c.args.views.now c.args.needs.now.resolved.files c.args.file c.index-views-file.result c.in-Some.object c.requires.same
    c.requires.there c.index-views-file.is c.in-Some.is

pub returns-in-Some-clause-surveyed : goal.returns-in-Some-clause-surveyed
returns-in-Some-clause-surveyed c l ss us are begins is =
    let has = has_object c.args.views.now l c.args.file c.index-views-file.result c.in-Some.object are c.requires.there
    c.index-views-file.is c.in-Some.is in
    on_ok c.survey_object.result (file_more l ss us c.args.file (Object c.in-Some.object.bytes) c.survey_object.new.needs
    c.survey_object.new.findings has.is)
    (c.survey_object.ensures.surveyed l ss us has (file_begins l us c.args.file (Object c.in-Some.object.bytes) has.is begins) is)

pub returns-in-Some-clause-why : goal.returns-in-Some-clause-why
returns-in-Some-clause-why c l counts ss us are begins is =
    let has = has_object c.args.views.now l c.args.file c.index-views-file.result c.in-Some.object are c.requires.there
    c.index-views-file.is c.in-Some.is in
    c.survey_object.ensures.why l counts ss us has (file_begins l us c.args.file (Object c.in-Some.object.bytes) has.is begins) is

pub returns-in-None-clause-surveyed : goal.returns-in-None-clause-surveyed
returns-in-None-clause-surveyed c l ss us are begins is =
    file_none l ss us c.args.file c.args.needs.now c.args.findings.now
    (view_at c.args.views.now l.inputs c.args.file c.index-views-file.result None are c.requires.there c.index-views-file.is c.in-None.is)
    (walked_none l ss us c.args.needs.now c.args.findings.now is)
