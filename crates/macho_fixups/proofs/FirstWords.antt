-- The start of a page is known from where the run is cut in front of it.
--
-- In front of the cut all fixups have lower page numbers. The fixup at the cut is the first that may be on the page:
-- if it is, its offset is the start, and if it isn't, it is on a later page, and so are all behind it.
use Rattle.std.proofs.Common.{◌≡◌, ℕ, ◌+◌, ◌*◌, ◌/◌, ◌%◌, ◌<◌, ◌≤◌, List, length, get_or, take, arith, sym, ap, subst, ◌∙◌, inl, inr}
use Rattle.std.proofs.lemmas.Bool.{cases_lt}
use Rattle.std.proofs.lemmas.List.{get_or_default}
use Rattle.std.specs.List.{range_with_len}
use Rattle.std.proofs.lemmas.List.FromFn.{length-range_with_len, get_or-range_with_len}
use Rattle.macho_bytes.specs.Numbers.{le_bytes}
use Rattle.macho_bytes.specs.Texts.{put}
use Rattle.macho_bytes.proofs.Numbers.{little_is_sound}
use Rattle.macho_bytes.proofs.Sequences.{MoreTexts, texts_begin, texts_go_on, texts_end}
use Rattle.macho_model.specs.Images.{NO_START}
use Rattle.macho_model.specs.Segments.{SEGMENT_PAGE}
use Rattle.macho_fixups.specs.declared.run.Fixup.{Fixup}
use Rattle.macho_fixups.specs.Runs.{start_of}
use Rattle.macho_fixups.specs.steps.Cuts.{IsCut, IsSkip}
use Rattle.macho_fixups.specs.Tables.{page_starts_text}
use Rattle.macho_fixups.proofs.Cuts.{start_of-here, start_of-none}
use Rattle.macho_fixups.specs.steps.Runs.{AreSorted}

-- in front of the cut pages are lower
lower : (fixups : List Fixup) (next number : ℕ) → IsCut fixups next (number * SEGMENT_PAGE) → (j : ℕ) (e : Fixup) → j < next
    → (get_or fixups j e).address / SEGMENT_PAGE < number
lower fixups next number cut j e lt = omega (arith, cut.below j e lt)

-- a run cut at its end has no fixup on the page
pub no_start_at_end : (fixups : List Fixup) (next number : ℕ) → IsCut fixups next (number * SEGMENT_PAGE) → next ≡ length fixups
    → NO_START ≡ start_of fixups number
no_start_at_end fixups next number cut end =
    sym (start_of-none fixups number (λ j e lt is. omega (arith, lower fixups next number cut j e (omega arith))))

-- nor has one whose next fixup is on another page
pub no_start_behind : (fixups : List Fixup) (next number : ℕ) (d : Fixup) → AreSorted fixups → IsCut fixups next (number * SEGMENT_PAGE)
    → next < length fixups
    → ((get_or fixups next d).address / SEGMENT_PAGE ≡ number → ⊥) → NO_START ≡ start_of fixups number
no_start_behind fixups next number d sorted cut within other =
    sym (start_of-none fixups number none)
  where
    none : (j : ℕ) (e : Fixup) → j < length fixups → (get_or fixups j e).address / SEGMENT_PAGE ≡ number → ⊥
    none j e lt is =
        let here = cut.above next d (omega arith) within in
        elim (cases_lt j next) [
          | inl early ↦ absurd (omega (arith, lower fixups next number cut j e early))
          | inr late ↦ elim (cases_lt next j) [
            | inl behind ↦
                let same : (get_or fixups next e).address ≡ (get_or fixups next d).address =
                ap (λ (f : Fixup). f.address) (get_or_default fixups next e d within) in
                other (omega (arith, sorted next j e behind lt, same, here))
            | inr at ↦
                let same : (get_or fixups j e).address ≡ (get_or fixups next d).address =
                ap (λ (k : ℕ). (get_or fixups k e).address) (omega arith)
                ∙ ap (λ (f : Fixup). f.address) (get_or_default fixups next e d within) in
                other (omega (arith, same))
          ]
        ]

-- the next fixup is the first of its page
pub start_here : (fixups : List Fixup) (next number : ℕ) (d : Fixup) → IsCut fixups next (number * SEGMENT_PAGE) → next < length fixups
    → (get_or fixups next d).address / SEGMENT_PAGE ≡ number → (get_or fixups next d).address % SEGMENT_PAGE ≡ start_of fixups number
start_here fixups next number d cut within here = sym (start_of-here fixups number next d within (lower fixups next number cut) here)

-- the bytes of a page's start
abbrev pub start_text : List Fixup → ℕ → ℕ → List ℕ
start_text fixups first page = le_bytes 2 (start_of fixups (first + page))

-- The starts so far are put, and the place behind them is known.
pub record PagesSoFar (fixups : List Fixup) (first pages at place i : ℕ) (before now : List ℕ) : Type 0 where
  pub texts : MoreTexts (start_text fixups first) at place (take i (range_with_len 0 pages)) before now
  pub here : place ≡ at + 2 * i

pub pages_begin : (fixups : List Fixup) (first pages at : ℕ) (out : List ℕ) → at ≤ length out
    → PagesSoFar fixups first pages at at 0 out out
pages_begin fixups first pages at out fits =
    record { texts = record { written = texts_begin (start_text fixups first) at out fits; ends = omega arith }; here = omega arith }

pub pages_go_on : (fixups : List Fixup) (first pages at place next i start : ℕ) (before out now : List ℕ) → i < pages
    → at + 2 * pages ≤ length before
    → PagesSoFar fixups first pages at place i before out → start ≡ start_of fixups (first + i) → next ≡ place + 2
    → now ≡ put place (le_bytes 2 start) out
    → PagesSoFar fixups first pages at next (i + 1) before now
pages_go_on fixups first pages at place next i start before out now lt room so_far is moved written =
    let long = little_is_sound.long 2 (start_of fixups (first + i)) in
    record {
      texts = texts_go_on (start_text fixups first) at place next i (range_with_len 0 pages) i before out now
          (omega (arith, length-range_with_len 0 pages)) (omega (arith, get_or-range_with_len 0 pages i i lt)) so_far.texts
          (omega (arith, long, moved)) (omega (arith, moved, so_far.here))
          (written ∙ ap (λ (s : ℕ). put place (le_bytes 2 s) out) is);
      here = omega (arith, so_far.here, moved);
    }

pub pages_end : (fixups : List Fixup) (first pages at place i : ℕ) (before now : List ℕ) → i ≡ pages
    → PagesSoFar fixups first pages at place i before now
    → (now ≡ put at (page_starts_text fixups first pages) before) × (length (page_starts_text fixups first pages) ≡ 2 * pages)
unfolding page_starts_text
pages_end fixups first pages at place i before now end so_far =
    let all = texts_end (start_text fixups first) at place i (range_with_len 0 pages) before now
    (omega (arith, length-range_with_len 0 pages)) so_far.texts in
    (all.written, omega (arith, all.ends, so_far.here))
