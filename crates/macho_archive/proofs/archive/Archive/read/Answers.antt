-- At first nothing is read. Where the reading stops, the refusal is right, and an archive is refused for want of memory alone.
use Rattle.std.proofs.Common.{refl, sym, ◌∙◌}
use Rattle.macho_archive.proofs.OneMore.{none_read}
use Rattle.macho_archive.proofs.Refusals.{refused, no_memory}
use Rattle.macho_archive.proofs.archive.Archive.read.Goals as goal

pub loop-reading-init : goal.loop-reading-init
loop-reading-init c =
    none_read c.args.bytes.now _ (sym c.starts_with.ensures.value ∙ c.if-not-starts_with.false) refl refl c.new.ensures.items

pub returns-in-Err-clause-only : goal.returns-in-Err-clause-only
returns-in-Err-clause-only c = λ count archive.
    no_memory c.args.bytes.now c.loop-reading.reading c.in-Err.fault count c.loop-reading.invariant c.loop-reading-test.true
    c.in-Err.ensures.why archive

pub returns-in-Err-clause-why : goal.returns-in-Err-clause-why
returns-in-Err-clause-why c =
    refused c.args.bytes.now c.loop-reading.reading c.in-Err.fault c.loop-reading.invariant c.loop-reading-test.true c.in-Err.ensures.why
