use Rattle.std.proofs.Common.{◌<◌, arith}
use Rattle.macho_model.specs.Objects.{section_at}
use Rattle.macho_relocation_scan.proofs.Places.{seen_taken, seen_more, none_left}
use Rattle.macho_relocation_scan.proofs.overlap.overlap_by_table.Goals as goal

pub returns-in-Some : goal.returns-in-Some
returns-in-Some c =
    let there : c.loop-index.index < (section_at c.args.list.now.bytes c.args.list.now.section).nreloc = omega arith in
    seen_taken c.args.list.now.bytes c.args.list.now.section c.loop-index.index _ _ c.of-seen.result c.in_ok-earlier.field-0
    c.in-Some.earlier c.loop-index.invariant.table there c.of-seen.ensures.seen c.in-Some.is c.in_ok-earlier.ensures

pub loop-index-preserved : goal.loop-index-preserved
loop-index-preserved c =
    let more = seen_more c.args.list.now.bytes c.args.list.now.section c.loop-index.index _ _ c.of-seen.result c.in_ok-earlier.field-0
    c.loop-index.invariant.table c.loop-index.invariant.apart c.of-seen.ensures.seen (none_left _ c.in_default.not-Some)
    c.in_ok-earlier.ensures in
    record { table = more.table; apart = more.apart; last = c.of-seen.ensures.last }
