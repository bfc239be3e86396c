-- The lines before are pushed, and this one is, or a front of it is taken; each placed section is one that the link has. Its header is
-- read from the view of its object.
use Rattle.std.proofs.lemmas.Result.{err_from_is_err_and}
use Rattle.macho_job.specs.Names.{names_of}
use Rattle.macho_report.specs.Lines.{map_line}
use Rattle.macho_devices.proofs.Counts.{counts-since}
use Rattle.macho_printing.proofs.Pushes.{piece-pushed, piece-refused}
use Rattle.macho_report.proofs.Listed.{placed-there, viewed-there, viewed-header}
use Rattle.macho_report.proofs.map.push_sections.Goals as goal

pub view_of-viewed-requires-clause-there : goal.view_of-viewed-requires-clause-there
view_of-viewed-requires-clause-there g c =
    placed-there c.args.linker.now c.args.sections.now c.loop-index.index _ c.requires c.loop-index-test.true

pub header_of-header-requires-clause-there : goal.header_of-header-requires-clause-there
header_of-header-requires-clause-there g c = viewed-there _ _ _ _ c.view_of-viewed.ensures.file c.view_of-viewed.ensures.viewed
    (placed-there c.args.linker.now c.args.sections.now c.loop-index.index _ c.requires c.loop-index-test.true)

pub returns-in_err-push_section : goal.returns-in_err-push_section
returns-in_err-push_section g c =
    let p = err_from_is_err_and c.from_residual.result c.from_residual.ensures.1 in
    let pushed = c.in_err-push_section.ensures c.args.linker.now (viewed-header _ _ _ _ _ c.view_of-viewed.ensures.file
    c.view_of-viewed.ensures.viewed c.header_of-header.ensures) in
    piece-refused (map_line c.args.linker.now (names_of c.args.names.now)) c.args.sections.now c.loop-index.index _ _ _ _ _ _ _
    c.from_residual.result p.0 p.1 c.loop-index-test.true
    c.loop-index.invariant.0 pushed.left c.loop-index.invariant.1 pushed.counted pushed.why

pub loop-index-preserved : goal.loop-index-preserved
loop-index-preserved g c =
    let pushed = c.in_ok-push_section.ensures c.args.linker.now (viewed-header _ _ _ _ _ c.view_of-viewed.ensures.file
    c.view_of-viewed.ensures.viewed c.header_of-header.ensures) in (
      piece-pushed (map_line c.args.linker.now (names_of c.args.names.now)) c.args.sections.now c.loop-index.index _ _ _ _ _ _ _
          c.loop-index-test.true c.loop-index.invariant.0 pushed.done,
      counts-since _ _ _ c.loop-index.invariant.1 pushed.counted,
      c.view_of-viewed.ensures.viewed,
    )
