use Rattle.std.proofs.Common.{ℕ, arith, refl, ap}
use Rattle.macho_fixups.specs.Runs.{pages_of}
use Rattle.macho_fixups.specs.Tables.{starts_size}
use Rattle.macho_fixups.proofs.PagePasses.{first_page, run_of_none}
use Rattle.macho_fixups.proofs.SegmentTexts.{nothing_told, segment_told, room_of}
use Rattle.macho_fixups.proofs.starts.write_starts.Goals as goal

pub returns-then-not-has_next-clause-run : goal.returns-then-not-has_next-clause-run
returns-then-not-has_next-clause-run c =
    let none = run_of_none c.args.fixups.now c.args.segment.now c.args.from c.skip_below-begin.result c.requires.sorted c.requires.below
    c.skip_below-begin.ensures (c.has_next.ensures.none c.if-not-has_next.true) in
    record { end_at = none.0; counted = none.1 }

pub returns-then-not-has_next-clause-written : goal.returns-then-not-has_next-clause-written
returns-then-not-has_next-clause-written c =
    (nothing_told c.args.base c.args.at 0 c.args.fixups.now c.args.segment.now c.args.out.now refl (omega (arith, c.requires.room))).0

pub write_page_starts-run-requires-clause-room : goal.write_page_starts-run-requires-clause-room
write_page_starts-run-requires-clause-room c =
    let some = first_page c.args.fixups.now c.args.segment.now c.args.from c.skip_below-begin.result c.requires.sorted c.requires.below
    c.skip_below-begin.ensures (c.has_next.ensures.some c.if-not-has_next.false) in
    omega (arith, room_of (pages_of c.args.segment.now c.args.fixups.now) some, c.requires.room)

pub overflow_sub-record : goal.overflow_sub-record
overflow_sub-record c =
    let some = first_page c.args.fixups.now c.args.segment.now c.args.from c.skip_below-begin.result c.requires.sorted c.requires.below
    c.skip_below-begin.ensures (c.has_next.ensures.some c.if-not-has_next.false) in
    omega (arith, some, c.requires.above)

pub write-requires : goal.write-requires
write-requires c =
    let some = first_page c.args.fixups.now c.args.segment.now c.args.from c.skip_below-begin.result c.requires.sorted c.requires.below
    c.skip_below-begin.ensures (c.has_next.ensures.some c.if-not-has_next.false) in
    omega (arith, room_of (pages_of c.args.segment.now c.args.fixups.now) some, c.requires.room, c.write_page_starts-run.auto.out)

pub returns-clause-written : goal.returns-clause-written
returns-clause-written c =
    let some = first_page c.args.fixups.now c.args.segment.now c.args.from c.skip_below-begin.result c.requires.sorted c.requires.below
    c.skip_below-begin.ensures (c.has_next.ensures.some c.if-not-has_next.false) in
    let counted = c.write_page_starts-run.ensures.run.counted in
    (segment_told c.args.base c.args.at c.write_page_starts-run.result.pages c.args.fixups.now c.args.segment.now c.args.out.now
    c.write_page_starts-run.new.out c.write.new.out (λ none. absurd (omega (arith, none, some, counted)))
    (omega (arith, c.requires.room, ap (λ (n : ℕ). starts_size n) counted)) c.write.ensures.back.long c.write_page_starts-run.ensures.long
    c.write_page_starts-run.ensures.written c.write.ensures.written).0
