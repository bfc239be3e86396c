-- The walk along a page's chain, which stops at a word that does not fit.
--
-- A word that does not fit is told where it stands. One that fits is in its page, so a step from it stays near the page,
-- and it is one of finitely many. All that it leads to are itself and what its steps lead to, whatever segment they are
-- read in; so where it fits and those fit, all fit. The words of the page's chain are those that its start leads to.
use Rattle.std.proofs.Common.{◌≡◌, ℕ, ◌+◌, ◌*◌, ◌-◌, ◌^◌, ◌<◌, ◌≤◌, nat_le, Bool, true, false, List, length, slice_index, refl, sym, ap, subst, ◌∙◌, arith, inl, inr, All}
use Rattle.std.proofs.lemmas.Bool.{leb-true}
use Rattle.macho_image_walks.specs.declared.walk.Listed.TheVariants as list
use Rattle.macho_model.specs.Commands.{command_at, header_of}
use Rattle.macho_model.specs.Images.{segments_of, NO_START}
use Rattle.macho_model.specs.Segments.{SEGMENT_PAGE}
use Rattle.macho_records.specs.declared.header.SegmentCommand.{SegmentCommand}
use Rattle.macho_model.specs.Chain.{next_of, STRIDE, OnPageChain, chain_segment, chain_segments}
use Rattle.macho_model.specs.Loader.{segment_in, WordFits, WordFails}
use Rattle.macho_image_walks.specs.Readings.{listed, IsNth, segment_there, StepIn, starts_of}
use Rattle.macho_image_walks.specs.steps.Walks.{Leads, chain_segment_at}
use Rattle.macho_image_walks.specs.steps.Walks as walks
use Rattle.macho_image_walks.specs.steps.WordTests.{word_fits_test, address_in, UnfitFrom, FitFrom, UnfitOnPage, FitOnPage, FitOnNth, EachWordFits}
use Rattle.macho_model.proofs.SegmentTests.{each_command}
use Rattle.macho_image_walks.proofs.NumberedWalk.{nth_number, number_place, few_listed_of, nth_one}
use Rattle.macho_image_walks.proofs.WordWalk.{page_chain_found, page_chain_none, from_start}
use Rattle.macho_model.specs.SegmentRules.{file_part_inside}
use Rattle.macho_bytes.proofs.Bools.{and_left}

-- of a page: its start, and what it leads to
start_address : (b : List ℕ) (number place page start : ℕ) → start ≡ slice_index (starts_of b number) page
    → address_in b place (16384 * page + start) ≡ (segment_in b (command_at b place)).vmaddr + SEGMENT_PAGE * page + slice_index
    (starts_of b number) page
start_address b number place page start is = omega (arith, is)

pub unfit_on_page : (b : List ℕ) (number place page start x : ℕ) → page < length (starts_of b number)
    → start ≡ slice_index (starts_of b number) page
    → (start ≡ NO_START → ⊥) → UnfitFrom b number place page (16384 * page + start) x → UnfitOnPage b number place page x
unfit_on_page b number place page start x within is some unfit =
    record {
      on = page_chain_found b number place page (address_in b place x) (segment_in b (command_at b place)).vmaddr start within is some refl
          (subst (λ a. Leads b a (address_in b place x)) (start_address b number place page start is ∙ sym
          (ap (λ n. (segment_in b (command_at b place)).vmaddr + SEGMENT_PAGE * page + n) is)) unfit.leads);
      unfit = unfit.unfit;
      small = unfit.small;
    }

pub fit_on_page : (b : List ℕ) (number place page start : ℕ) → start ≡ slice_index (starts_of b number) page
    → FitFrom b number place page (16384 * page + start) → FitOnPage b number place page
fit_on_page b number place page start is fit a on =
    let f = from_start b (chain_segment_at b number place) page a on in
    fit a (subst (λ x. Leads b x a) (sym (start_address b number place page start is)) f.leads)

pub fit_without_start : (b : List ℕ) (number place page start : ℕ) → start ≡ slice_index (starts_of b number) page → start ≡ NO_START
    → FitOnPage b number place page
fit_without_start b number place page start is none a on = absurd (page_chain_none b number place page a start is none on)

-- of a segment, told by the file offset
pub word_fails : (b : List ℕ) (number place page offset start x : ℕ) → IsNth list.Segments b number place
    → start ≡ (segment_in b (command_at b place)).fileoff → start + offset ≡ x → UnfitOnPage b number place page offset → WordFails b x
word_fails b number place page offset start x nth at is unfit =
    (address_in b place offset, number, segment_there b place, page, nth_number b number place nth, unfit.on, told, unfit.unfit)
  where
    told : x ≡ (segment_in b (command_at b place)).fileoff + (address_in b place offset - (segment_in b (command_at b place)).vmaddr)
    told = omega (arith, at, is)

-- of all: each segment has a number
pub each_word : (b : List ℕ) → ((k : ℕ) → k < (header_of b).ncmds → FitOnNth b k) → EachWordFits b
each_word b fit number s page a is on =
    let there = number_place b number s is in
    subst (λ x. OnPageChain (chain_segments b) b (chain_segment b (number, x)) page a → WordFits b x page a) there.2
    (fit number (omega (arith, there.1.within, few_listed_of list.Segments b)) there.0 there.1 page a) on

-- a rule that each segment's command keeps, of the one at a place
pub kept_at : (b : List ℕ) (number place : ℕ) → All (λ s. file_part_inside b s ≡ true) (segments_of b)
    → IsNth list.Segments b number place → file_part_inside b (segment_in b (command_at b place)) ≡ true
unfolding listed
kept_at b number place each nth =
    subst (λ c. file_part_inside b (segment_in b c) ≡ true) nth.is
    (each_command b (file_part_inside b) each number (command_at b place) nth.within)

-- the file bytes of a segment begin inside the file
pub begins_inside : (b : List ℕ) (place : ℕ) → file_part_inside b (segment_in b (command_at b place)) ≡ true
    → (segment_in b (command_at b place)).fileoff ≤ length b
begins_inside b place h =
    let s = segment_in b (command_at b place) in
    let end = leb-true (s.fileoff + s.filesize) (length b) (and_left (nat_le (s.fileoff + s.filesize) (length b))
    (nat_le s.filesize s.vmsize) h) in
    omega (arith, end)

pub same_segment_fits : (b : List ℕ) (number place found page : ℕ) → IsNth list.Segments b number place → IsNth list.Segments b number found
    → FitOnPage b number found page → FitOnPage b number place page
same_segment_fits b number place found page nth other fit =
    subst (λ p. FitOnPage b number p page) (nth_one list.Segments b number found place other nth) fit
