use Rattle.std.proofs.Common.{arith}
use Rattle.macho_fixups.specs.Tables.{segment_size, image_starts_size}
use Rattle.macho_fixups.proofs.SegmentWrites.{segments_begin, segment_done, segments_end, has_room, no_segment}
use Rattle.macho_fixups.proofs.table.write_segments.Goals as goal

pub loop-segment-init : goal.loop-segment-init
unfolding image_starts_size
loop-segment-init c = segments_begin c.args.base c.args.at c.args.fixups.now c.args.segments.now c.args.out.now
    (omega (arith, c.requires.room))

pub offset_word-requires : goal.offset_word-requires
unfolding image_starts_size
offset_word-requires c =
    (has_room c.args.base c.args.at c.args.fixups.now c.args.segments.now no_segment c.loop-segment.slot c.loop-segment.place
    c.loop-segment.next
    c.loop-segment.segment-index c.args.out.now c.loop-segment.out c.loop-segment-test.true c.requires.fits.count c.requires.fits.pages
    c.requires.room
    c.loop-segment.invariant).near

pub put_little-requires : goal.put_little-requires
unfolding image_starts_size
put_little-requires c =
    let room = has_room c.args.base c.args.at c.args.fixups.now c.args.segments.now no_segment c.loop-segment.slot c.loop-segment.place
    c.loop-segment.next
    c.loop-segment.segment-index c.args.out.now c.loop-segment.out c.loop-segment-test.true c.requires.fits.count c.requires.fits.pages
    c.requires.room
    c.loop-segment.invariant in
    omega (arith, room.offset, c.loop-segment.auto.out, c.write_starts-run.auto.out)

pub write_starts-run-requires-clause-room : goal.write_starts-run-requires-clause-room
unfolding image_starts_size segment_size
write_starts-run-requires-clause-room c =
    let room = has_room c.args.base c.args.at c.args.fixups.now c.args.segments.now no_segment c.loop-segment.slot c.loop-segment.place
    c.loop-segment.next
    c.loop-segment.segment-index c.args.out.now c.loop-segment.out c.loop-segment-test.true c.requires.fits.count c.requires.fits.pages
    c.requires.room
    c.loop-segment.invariant in
    omega (arith, room.text, c.loop-segment.auto.out)

pub loop-segment-preserved : goal.loop-segment-preserved
unfolding image_starts_size
loop-segment-preserved c =
    segment_done c.args.base c.args.at c.args.fixups.now c.args.segments.now _ c.loop-segment.slot c.loop-segment.place c.loop-segment.next
    c.loop-segment.segment-index c.write_starts-run.result.end c.offset_word.result c.write_starts-run.result.pages
    c.starts_size-place.result c.args.out.now
    c.loop-segment.out c.write_starts-run.new.out c.put_little.new.out c.loop-segment-test.true c.requires.fits.order c.requires.room
    c.loop-segment.auto.out c.loop-segment.invariant c.write_starts-run.ensures.run.end_at c.write_starts-run.ensures.run.counted
    c.offset_word.ensures
    c.write_starts-run.ensures.long c.write_starts-run.ensures.written c.put_little.ensures.written c.starts_size-place.ensures

pub returns-clause-written : goal.returns-clause-written
unfolding image_starts_size
returns-clause-written c =
    (segments_end c.args.base c.args.at c.args.fixups.now c.args.segments.now c.loop-segment.slot c.loop-segment.place c.loop-segment.next
    c.loop-segment.segment-index c.args.out.now c.loop-segment.out c.loop-segment-test.false c.requires.room c.loop-segment.invariant).0

pub returns-clause-long : goal.returns-clause-long
unfolding image_starts_size
returns-clause-long c =
    (segments_end c.args.base c.args.at c.args.fixups.now c.args.segments.now c.loop-segment.slot c.loop-segment.place c.loop-segment.next
    c.loop-segment.segment-index c.args.out.now c.loop-segment.out c.loop-segment-test.false c.requires.room c.loop-segment.invariant).1

pub returns-clause-behind : goal.returns-clause-behind
unfolding image_starts_size
returns-clause-behind c =
    (segments_end c.args.base c.args.at c.args.fixups.now c.args.segments.now c.loop-segment.slot c.loop-segment.place c.loop-segment.next
    c.loop-segment.segment-index c.args.out.now c.loop-segment.out c.loop-segment-test.false c.requires.room c.loop-segment.invariant).2
