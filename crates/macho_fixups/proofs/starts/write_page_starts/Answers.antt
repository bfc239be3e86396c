use Rattle.std.proofs.Common.{ℕ, ◌/◌, length, arith, refl, sym, ap, ◌∙◌}
use Rattle.macho_bytes.specs.Texts.{put}
use Rattle.macho_model.specs.Segments.{SEGMENT_PAGE}
use Rattle.macho_fixups.specs.Runs.{pages_of}
use Rattle.macho_fixups.specs.Tables.{page_starts_text}
use Rattle.macho_fixups.proofs.FirstWords.{pages_begin, pages_go_on, pages_end}
use Rattle.macho_fixups.proofs.PagePasses.{pages_first, next_page, pages_more, all_passed}
use Rattle.macho_fixups.proofs.starts.write_page_starts.Goals as goal

pub pages-init : goal.pages-init
pages-init c = record {
  so_far = pages_begin c.args.fixups.now (c.args.segment.now.address / SEGMENT_PAGE) (pages_of c.args.segment.now c.args.fixups.now)
      c.args.at c.args.out.now
      (omega (arith, c.requires.room));
  passed = pages_first c.args.fixups.now c.args.segment.now c.args.begin c.requires.paged c.requires.begin;
}

pub put_little-requires : goal.put_little-requires
put_little-requires c =
    let p = next_page c.args.fixups.now c.args.segment.now c.pages.next c.pages.pages c.requires.paged c.pages.invariant.passed
    (c.has_next.ensures.some c.pages-test.true) in
    omega (arith, p.more, c.pages.invariant.so_far.here, c.requires.room, c.pages.auto.out)

pub overflow_mul-page : goal.overflow_mul-page
overflow_mul-page c =
    let p = next_page c.args.fixups.now c.args.segment.now c.pages.next c.pages.pages c.requires.paged c.pages.invariant.passed
    (c.has_next.ensures.some c.pages-test.true) in
    omega (arith, p.left, c.requires.ends)

pub overflow_sub-left-in-pages : goal.overflow_sub-left-in-pages
overflow_sub-left-in-pages c =
    let p = next_page c.args.fixups.now c.args.segment.now c.pages.next c.pages.pages c.requires.paged c.pages.invariant.passed
    (c.has_next.ensures.some c.pages-test.true) in
    omega (arith, p.left)

pub pages-smaller : goal.pages-smaller
pages-smaller c =
    let p = next_page c.args.fixups.now c.args.segment.now c.pages.next c.pages.pages c.requires.paged c.pages.invariant.passed
    (c.has_next.ensures.some c.pages-test.true) in
    omega (arith, p.more)

pub pages-preserved : goal.pages-preserved
pages-preserved c =
    let p = next_page c.args.fixups.now c.args.segment.now c.pages.next c.pages.pages c.requires.paged c.pages.invariant.passed
    (c.has_next.ensures.some c.pages-test.true) in
    record {
      so_far = pages_go_on c.args.fixups.now (c.args.segment.now.address / SEGMENT_PAGE) (pages_of c.args.segment.now c.args.fixups.now)
          c.args.at
          c.pages.place _ c.pages.pages c.start_from.result c.args.out.now c.pages.out c.put_little.new.out (omega (arith, p.more))
          c.requires.room
          c.pages.invariant.so_far c.start_from.ensures refl c.put_little.ensures.written;
      passed = pages_more c.args.fixups.now c.args.segment.now c.pages.next c.pages.pages c.skip_below-next.result _ _ c.min.result
          c.requires.sorted p
          refl refl c.min.ensures c.skip_below-next.ensures;
    }

pub returns-clause-run : goal.returns-clause-run
returns-clause-run c =
    let all = all_passed c.args.fixups.now c.args.segment.now c.pages.next c.pages.pages c.requires.sorted c.pages.invariant.passed
    (c.has_next.ensures.none c.pages-test.false) in
    record { end_at = all.0; counted = all.1 }

pub returns-clause-written : goal.returns-clause-written
returns-clause-written c =
    let all = all_passed c.args.fixups.now c.args.segment.now c.pages.next c.pages.pages c.requires.sorted c.pages.invariant.passed
    (c.has_next.ensures.none c.pages-test.false) in
    let end = pages_end c.args.fixups.now (c.args.segment.now.address / SEGMENT_PAGE) (pages_of c.args.segment.now c.args.fixups.now)
    c.args.at
    c.pages.place c.pages.pages c.args.out.now c.pages.out all.1 c.pages.invariant.so_far in
    end.0 ∙ ap (λ (n : ℕ). put c.args.at (page_starts_text c.args.fixups.now (c.args.segment.now.address / SEGMENT_PAGE) n) c.args.out.now)
    (sym all.1)

pub returns-clause-long : goal.returns-clause-long
returns-clause-long c =
    let all = all_passed c.args.fixups.now c.args.segment.now c.pages.next c.pages.pages c.requires.sorted c.pages.invariant.passed
    (c.has_next.ensures.none c.pages-test.false) in
    let end = pages_end c.args.fixups.now (c.args.segment.now.address / SEGMENT_PAGE) (pages_of c.args.segment.now c.args.fixups.now)
    c.args.at
    c.pages.place c.pages.pages c.args.out.now c.pages.out all.1 c.pages.invariant.so_far in
    let same = ap (λ (n : ℕ). length (page_starts_text c.args.fixups.now (c.args.segment.now.address / SEGMENT_PAGE) n)) all.1 in
    omega (arith, end.1, all.1, same)
