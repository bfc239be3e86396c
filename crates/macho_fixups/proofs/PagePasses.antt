-- The pages of a segment, passed once.
--
-- Page after page is taken as long as a fixup of the segment is left. In front of each page the run is cut there, so that fixup
-- stands on this page or a later one, and the segment has one page more. When none is left, all fixups of the segment were
-- passed on the pages so far. So these are the pages up to the last one with a fixup. The part of a page that is passed ends
-- where the segment's file part ends, if that is in front of the page's end.
use Rattle.std.proofs.Common.{◌≡◌, ℕ, ◌+◌, ◌*◌, ◌-◌, ◌/◌, ◌%◌, ◌<◌, ◌≤◌, min, List, length, get_or, arith, ap, subst, inl, inr}
use Rattle.std.proofs.lemmas.Bool.{cases_lt}
use Rattle.macho_model.specs.Segments.{SEGMENT_PAGE}
use Rattle.macho_fixups.specs.declared.run.Fixup.{Fixup}
use Rattle.macho_fixups.specs.declared.run.FixupSegment.{FixupSegment}
use Rattle.macho_fixups.specs.declared.words.FixupKind.TheVariants.{Rebase}
use Rattle.macho_fixups.specs.Runs.{pages_of}
use Rattle.macho_fixups.specs.steps.Runs.{pages_with, AreSorted}
use Rattle.macho_fixups.specs.steps.Cuts.{AreBelow, IsSkip, IsCut, IsNextBelow, IsNoneBelow}
use Rattle.macho_fixups.proofs.Cuts.{cut_of, below_cut, pages_of-above, pages_of-below, pages_with-out, pages_with-in, pages_of-none}

-- where the pages so far end, inside the file part
abbrev pub passed_end : FixupSegment → ℕ → ℕ
passed_end s pages = min ((s.address / SEGMENT_PAGE + pages) * SEGMENT_PAGE) (s.address + s.file_size)

-- So many pages are passed: none is behind the last one with a fixup, and the run is cut where they end.
pub record ArePassedPages (fixups : List Fixup) (s : FixupSegment) (next pages : ℕ) : Type 0 where
  pub few : pages ≤ pages_of s fixups
  pub cut : IsCut fixups next (passed_end s pages)

pub pages_first : (fixups : List Fixup) (s : FixupSegment) (begin : ℕ) → s.address % SEGMENT_PAGE ≡ 0 → IsCut fixups begin s.address
    → ArePassedPages fixups s begin 0
pages_first fixups s begin paged cut =
    let same : s.address ≡ passed_end s 0 = omega (arith, paged) in
    record { few = omega arith; cut = subst (λ (b : ℕ). IsCut fixups begin b) same cut }

-- what is known of the next page where a fixup of the segment is left
pub record IsNextPage (fixups : List Fixup) (s : FixupSegment) (next pages : ℕ) : Type 0 where
  pub more : pages + 1 ≤ pages_of s fixups
  pub cut : IsCut fixups next ((s.address / SEGMENT_PAGE + pages) * SEGMENT_PAGE)
  pub low : s.address ≤ (s.address / SEGMENT_PAGE + pages) * SEGMENT_PAGE
  pub high : (d : Fixup) → (s.address / SEGMENT_PAGE + pages) * SEGMENT_PAGE ≤ (get_or fixups next d).address
  pub left : (s.address / SEGMENT_PAGE + pages) * SEGMENT_PAGE < s.address + s.file_size

pub next_page : (fixups : List Fixup) (s : FixupSegment) (next pages : ℕ) → s.address % SEGMENT_PAGE ≡ 0
    → ArePassedPages fixups s next pages
    → IsNextBelow fixups next (s.address + s.file_size) → IsNextPage fixups s next pages
next_page fixups s next pages paged p below =
    record {
      more = omega (
        arith,
        pages_of-above s fixups next e below.0,
        pages_with-in s (get_or fixups next e) (omega (arith, low, high e))
            (below.1 e),
        high e,
      );
      cut = subst (λ (b : ℕ). IsCut fixups next b) (omega (arith, high e, below.1 e)) p.cut;
      low = low;
      high = high;
      left = omega (arith, high e, below.1 e);
    }
  where
    e : Fixup
    e = record { address = 0; kind = Rebase 0 }

    low : s.address ≤ (s.address / SEGMENT_PAGE + pages) * SEGMENT_PAGE
    low = omega (arith, paged)

    high : (d : Fixup) → (s.address / SEGMENT_PAGE + pages) * SEGMENT_PAGE ≤ (get_or fixups next d).address
    high d = omega (arith, p.cut.above next d (omega arith) below.0, below.1 d)

-- one page more is passed
pub pages_more : (fixups : List Fixup) (s : FixupSegment) (next pages to page left size : ℕ) → AreSorted fixups
    → IsNextPage fixups s next pages
    → page ≡ (s.address / SEGMENT_PAGE + pages) * SEGMENT_PAGE → left ≡ s.file_size - (page - s.address) → size ≡ min left SEGMENT_PAGE
    → IsSkip fixups next (page + size) to → ArePassedPages fixups s to (pages + 1)
pages_more fixups s next pages to page left size sorted p page_is left_is size_is skip =
    let bound : page + size ≡ passed_end s (pages + 1) = omega (arith, page_is, left_is, size_is, p.low, p.left) in
    let before : AreBelow fixups next (page + size)
    = below_cut fixups next ((s.address / SEGMENT_PAGE + pages) * SEGMENT_PAGE) (page + size) p.cut (omega (arith, page_is)) in
    record {
      few = omega (arith, p.more);
      cut = subst (λ (b : ℕ). IsCut fixups to b) bound (cut_of fixups next (page + size) to sorted before skip);
    }

-- no fixup of the segment is left
pub run_ends : (fixups : List Fixup) (s : FixupSegment) (next bound : ℕ) → AreSorted fixups → bound ≤ s.address + s.file_size
    → IsCut fixups next bound
    → IsNoneBelow fixups next (s.address + s.file_size) → IsCut fixups next (s.address + s.file_size)
run_ends fixups s next bound sorted low cut none =
    record {
      within = cut.within;
      below = λ k d lt. omega (arith, cut.below k d lt);
      above = λ k d le lt. elim (cases_lt next k) [
        | inl behind ↦ omega (arith, sorted next k d behind lt, none d (omega arith))
        | inr at ↦
            let same : next ≡ k = omega arith in
            omega (arith, none d (omega arith), ap (λ (j : ℕ). (get_or fixups j d).address) same)
      ];
    }

pub all_passed : (fixups : List Fixup) (s : FixupSegment) (next pages : ℕ) → AreSorted fixups → ArePassedPages fixups s next pages
    → IsNoneBelow fixups next (s.address + s.file_size) → (IsCut fixups next (s.address + s.file_size)) × (pages ≡ pages_of s fixups)
all_passed fixups s next pages sorted p none = (end, omega (arith, p.few, pages_of-below s fixups pages each))
  where
    end : IsCut fixups next (s.address + s.file_size)
    end = run_ends fixups s next (passed_end s pages) sorted (omega arith) p.cut none

    each : (k : ℕ) (d : Fixup) → k < length fixups → pages_with s (get_or fixups k d) ≤ pages
    each k d lt = elim (cases_lt k next) [
      | inr late ↦ omega (arith, pages_with-out s (get_or fixups k d) (inr (end.above k d late lt)))
      | inl early ↦ elim (cases_lt (get_or fixups k d).address s.address) [
        | inl low ↦ omega (arith, pages_with-out s (get_or fixups k d) (inl low))
        | inr high ↦
            omega (arith, pages_with-in s (get_or fixups k d) high (end.below k d early), p.cut.below k d early)
      ]
    ]

-- the first fixup that isn't in front of a segment
pub begins : (fixups : List Fixup) (s : FixupSegment) (from begin : ℕ) → AreSorted fixups → AreBelow fixups from s.address
    → IsSkip fixups from (s.address + 0) begin → IsCut fixups begin s.address
begins fixups s from begin sorted below skip =
    let zero_more : s.address + 0 ≡ s.address = omega arith in
    cut_of fixups from s.address begin sorted below (subst (λ (b : ℕ). IsSkip fixups from b begin) zero_more skip)

-- a segment without a fixup
pub run_of_none : (fixups : List Fixup) (s : FixupSegment) (from begin : ℕ) → AreSorted fixups → AreBelow fixups from s.address
    → IsSkip fixups from (s.address + 0) begin → IsNoneBelow fixups begin (s.address + s.file_size)
    → (IsCut fixups begin (s.address + s.file_size)) × (0 ≡ pages_of s fixups)
run_of_none fixups s from begin sorted below skip none =
    let front = begins fixups s from begin sorted below skip in
    let end = run_ends fixups s begin s.address sorted (omega arith) front none in
    (end, pages_of-none s fixups begin front end)

-- a segment with one has a page
pub first_page : (fixups : List Fixup) (s : FixupSegment) (from begin : ℕ) → AreSorted fixups → AreBelow fixups from s.address
    → IsSkip fixups from (s.address + 0) begin → IsNextBelow fixups begin (s.address + s.file_size) → 1 ≤ pages_of s fixups
first_page fixups s from begin sorted below skip next =
    let front = begins fixups s from begin sorted below skip in
    let e : Fixup = record { address = 0; kind = Rebase 0 } in
    omega (
      arith,
      pages_of-above s fixups begin e next.0,
      pages_with-in s (get_or fixups begin e) (front.above begin e (omega arith) next.0) (next.1 e),
    )
