-- A view is of an object of the link.
use Rattle.std.proofs.Common.{Some}
use Rattle.macho_relocation_scan.proofs.Viewing.{view_says, view_at, has_rows, has_object}
use Rattle.macho_reading.proofs.undefined.use_file.Goals as goal

pub use_object-requires-clause-kind : goal.use_object-requires-clause-kind
use_object-requires-clause-kind c =
    let seen = c.index-views-file.result in
    let same = c.requires.same in
    (view_says _ c.in-Some.object
    (view_at c.args.views.now same.inputs c.args.file seen
    (Some c.in-Some.object) same.are c.requires.there c.index-views-file.is c.in-Some.is)).1

pub use_object-requires-clause-rows : goal.use_object-requires-clause-rows
use_object-requires-clause-rows c =
    has_rows c.args.views.now c.args.needs.now.resolved.files c.args.file c.index-views-file.result c.in-Some.object c.requires.same
    c.requires.there c.index-views-file.is c.in-Some.is

pub returns-in-Some-clause-why : goal.returns-in-Some-clause-why
returns-in-Some-clause-why c l counts are keeps =
    c.use_object.ensures.why l counts
    (has_object c.args.views.now l c.args.file c.index-views-file.result c.in-Some.object are c.requires.there c.index-views-file.is
    c.in-Some.is)
    keeps
