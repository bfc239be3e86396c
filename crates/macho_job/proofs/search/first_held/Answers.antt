-- The paths before hold no file.
use Rattle.std.proofs.Common.{ap, sym, ◌∙◌}
use Rattle.macho_devices.specs.Devices.{content_of}
use Rattle.macho_job.proofs.Gathers.{first-held, none-held}
use Rattle.macho_job.proofs.search.first_held.Goals as goal

pub returns-in-Some-clause-found : goal.returns-in-Some-clause-found
returns-in-Some-clause-found g c =
    first-held (g.F.Paths.state c.args.files.now).files (g.F.Paths.state c.loop-path.files).files c.args.paths.now c.loop-path.path-index
    c.path-item.result
    c.as_str.result.now _ c.in-Some.bytes.items (content_of c.in_ok-bytes.field-0) c.loop-path.invariant.1.same_files
    c.loop-path-test.true c.path-item.is
    c.loop-path.invariant.0 c.in_ok-bytes.ensures.found c.as_str.ensures.value (ap content_of c.in-Some.is)
    (c.in_ok-path.ensures.ok ∙ (c.as_str-in-Some.ensures.value ∙ sym c.as_str.ensures.value))

pub returns-clause-found : goal.returns-clause-found
returns-clause-found g c =
    none-held (g.F.Paths.state c.args.files.now).files c.args.paths.now c.loop-path.path-index c.loop-path-test.false
    c.loop-path.invariant.0
