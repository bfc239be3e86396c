-- The words on the chains of an accepted image stand in the order of segments, pages and steps.
--
-- A word on the chain stands in the memory of the segment of its page. Segments share no address, so a word at an address of a segment is
-- on the chain of one of its pages; and since each word fits in its page, of the page that its address is in. The words of a page are
-- those that its start leads to. A word has one next word, so of two words of a page the lower one leads to the other one, and none stands
-- between a word and the next one.
use Rattle.std.proofs.Common.{◌≡◌, ℕ, ◌+◌, ◌*◌, ◌-◌, ◌^◌, ◌<◌, ◌≤◌, nat_le, true, ◌&&◌, List, length, get_or, slice_index}
use Rattle.std.proofs.Common.{refl, sym, subst, arith, inl, inr}
use Rattle.std.proofs.lemmas.Bool.{cases_lt, leb-true}
use Rattle.std.proofs.lemmas.List.{get_or_default}
use Rattle.macho_records.specs.declared.header.SegmentCommand.{SegmentCommand}
use Rattle.macho_bytes.specs.Numbers.{le_at}
use Rattle.macho_model.specs.Images.{segments_of}
use Rattle.macho_model.specs.Needs.{POINTER_SIZE}
use Rattle.macho_model.specs.Segments.{SEGMENT_PAGE}
use Rattle.macho_model.specs.Chain.{chain_segments, next_of, STRIDE, OnChainOf, OnPageChain}
use Rattle.macho_model.specs.Chain as chain
use Rattle.macho_model.specs.Loader.{IsAccepted, WordFits}
use Rattle.macho_image_walks.specs.declared.walk.Listed.TheVariants as list
use Rattle.macho_image_walks.specs.Readings.{IsNth, HasWord, segment_there, starts_of}
use Rattle.macho_image_walks.specs.steps.Walks.{Leads, IsOnPage, chain_segment_at}
use Rattle.macho_image_walks.specs.steps.Walks as walks
use Rattle.macho_model.proofs.Apart.{EndsBefore, Holds_address, all_rise}
use Rattle.macho_bytes.proofs.Bools.{and_right}
use Rattle.macho_image_walks.proofs.NumberedWalk.{nth_number, nth_one, word_in_segment, segment_has_word}
use Rattle.macho_image_walks.proofs.WordWalk.{leads_up, from_start, page_first}
use Rattle.macho_loader.specs.steps.Words.{StandApart}
use Rattle.macho_loader.specs.steps.Listing.{segment_end}
use Rattle.macho_loader.proofs.ChainWalks.{holds_address, leads_next}
use Rattle.macho_loader.proofs.ChainLookups.{stand_apart, stands_on_page}

-- a segment ends before a later one begins, and at 2 ^ 64 at most
pub ends_before : (b : List ℕ) (i p j q : ℕ) → StandApart b → IsNth list.Segments b i p → IsNth list.Segments b j q → i < j
    → segment_end (segment_there b p) ≤ (segment_there b q).vmaddr
ends_before b i p j q apart at_i at_j before =
    let s = segment_there b p in
    let t = segment_there b q in
    let one = nth_number b i p at_i in
    let other = nth_number b j q at_j in
    let ends : EndsBefore s t = rw (← one.1, ← other.1) (subst (λ x. EndsBefore x (get_or (segments_of b) j t))
    (get_or_default (segments_of b) i t s one.0) (all_rise (segments_of b) apart.rise i j t before other.0)) in
    ends

pub ends_below : (b : List ℕ) (number place : ℕ) → IsAccepted b → IsNth list.Segments b number place
    → segment_end (segment_there b place) ≤ 2 ^ 64
ends_below b number place accepted nth =
    let s = segment_there b place in
    let is = nth_number b number place nth in
    let Ends : SegmentCommand → Type 0 = λ x. nat_le (x.vmaddr + x.vmsize) (2 ^ 64) ≡ true in
    leb-true (s.vmaddr + s.vmsize) (2 ^ 64) (subst Ends is.1 (accepted.l6.0 number s is.0))

-- so one segment alone has an address in its memory
pub one_has_address : (b : List ℕ) (i p j q a : ℕ) → StandApart b → IsNth list.Segments b i p → IsNth list.Segments b j q
    → Holds_address (segment_there b p) a → Holds_address (segment_there b q) a → i ≡ j
one_has_address b i p j q a apart at_i at_j in_p in_q =
    elim (cases_lt i j) [
      | inl before ↦ let ends = ends_before b i p j q apart at_i at_j before in absurd (omega (arith, ends, in_p.1, in_q.0))
      | inr le ↦ elim (cases_lt j i) [
        | inl before ↦ let ends = ends_before b j q i p apart at_j at_i before in absurd (omega (arith, ends, in_q.1, in_p.0))
        | inr ge ↦ omega (arith, le, ge)
      ]
    ]

-- a word in a segment: on the chain of a page of it
pub record InSegment (b : List ℕ) (number place a : ℕ) : Type 0 where
  pub page : ℕ
  pub on : IsOnPage b number place page a
  pub fits : WordFits b (segment_there b place) page a

pub in_segment : (b : List ℕ) (number place a : ℕ) → IsAccepted b → IsNth list.Segments b number place → OnChainOf b a
    → (segment_there b place).vmaddr ≤ a → a < segment_end (segment_there b place) → InSegment b number place a
in_segment b number place a accepted nth on from to =
    let s = stands_on_page b a accepted on in
    let apart = stand_apart b accepted in
    let w = le_at POINTER_SIZE b ((segment_there b s.place).fileoff + (a - (segment_there b s.place).vmaddr)) in
    let holds = holds_address b s.number s.place a w apart s.nth s.has in
    let same : s.number ≡ number = one_has_address b s.number s.place number place a apart s.nth nth holds (from, to) in
    let there : s.place ≡ place = nth_one list.Segments b number s.place place (subst (λ k. IsNth list.Segments b k s.place) same s.nth)
    nth in
    record {
      page = s.page;
      on = subst (λ p. OnPageChain (chain_segments b) b (chain_segment_at b number p) s.page a) there
          (subst (λ k. OnPageChain (chain_segments b) b (chain_segment_at b k s.place) s.page a) same s.on);
      fits = subst (λ p. WordFits b (segment_there b p) s.page a) there s.fits;
    }

-- it is on the chain of the page that its address is in
pub on_this_page : (b : List ℕ) (number place page a : ℕ) → IsAccepted b → IsNth list.Segments b number place → OnChainOf b a
    → (segment_there b place).vmaddr + SEGMENT_PAGE * page ≤ a → a < (segment_there b place).vmaddr + SEGMENT_PAGE * (page + 1)
    → a < segment_end (segment_there b place) → IsOnPage b number place page a
on_this_page b number place page a accepted nth on from to inside =
    let s = in_segment b number place a accepted nth on (omega (arith, from)) inside in
    let page_from = s.fits.page_from in
    let page_to = s.fits.page_to in
    let same : s.page ≡ page = omega (arith, from, to, page_from, page_to) in
    subst (λ k. IsOnPage b number place k a) same s.on

-- the word of a page's chain fits, so the segment has it
pub page_fits : (b : List ℕ) (number place page a : ℕ) → IsAccepted b → IsNth list.Segments b number place
    → IsOnPage b number place page a → WordFits b (segment_there b place) page a
page_fits b number place page a accepted nth on = accepted.l10 number (segment_there b place) page a (nth_number b number place nth) on

pub page_has_word : (b : List ℕ) (number place page a word : ℕ) → IsAccepted b → IsNth list.Segments b number place
    → IsOnPage b number place page a
    → word ≡ le_at POINTER_SIZE b ((segment_there b place).fileoff + (a - (segment_there b place).vmaddr))
    → HasWord b (segment_there b place) a word
page_has_word b number place page a word accepted nth on is =
    let fits = page_fits b number place page a accepted nth on in
    let from = fits.page_from in
    record { from = omega (arith, from); to = fits.to; is = is }

-- where it stands
pub record StandsInside (b : List ℕ) (place page a : ℕ) : Type 0 where
  pub from : (segment_there b place).vmaddr + SEGMENT_PAGE * page ≤ a
  pub to : a + 8 ≤ (segment_there b place).vmaddr + SEGMENT_PAGE * (page + 1)
  pub inside : a + 8 ≤ segment_end (segment_there b place)
  pub below : segment_end (segment_there b place) ≤ 2 ^ 64

pub stands_inside : (b : List ℕ) (number place page a : ℕ) → IsAccepted b → IsNth list.Segments b number place
    → IsOnPage b number place page a → StandsInside b place page a
stands_inside b number place page a accepted nth on =
    let fits = page_fits b number place page a accepted nth on in
    let from = fits.page_from in
    let to = fits.page_to in
    let whole = page_has_word b number place page a _ accepted nth on refl in
    let holds = in_memory b number place accepted nth in
    let file = fits.to in
    record {
      from = omega (arith, from);
      to = omega (arith, to);
      inside = omega (arith, holds, file);
      below = ends_below b number place accepted nth;
    }
  where
    in_memory : (b : List ℕ) (number place : ℕ) → IsAccepted b → IsNth list.Segments b number place
        → (segment_there b place).filesize ≤ (segment_there b place).vmsize
    in_memory b number place accepted nth =
        let s = segment_there b place in
        let is = nth_number b number place nth in
        let Inside : SegmentCommand → Type 0 =
        λ x. (nat_le (x.fileoff + x.filesize) (length b) && nat_le x.filesize x.vmsize) ≡ true in
        leb-true s.filesize s.vmsize
        (and_right (nat_le (s.fileoff + s.filesize) (length b)) (nat_le s.filesize s.vmsize)
        (subst Inside is.1 (accepted.l4 number s is.0)))

-- of two words that an address leads to the lower one leads to the other one
leads_between : (b : List ℕ) (s a c : ℕ) → StandApart b → Leads b s a → Leads b s c → a ≤ c → Leads b a c
leads_between b _ _ c apart (walks.Leads.here a) to_c le = to_c
leads_between b _ _ c apart (walks.Leads.on s w a stands goes rest) to_c le =
    let there = word_in_segment b s w stands in
    elim (leads_next b there.number there.place w s c apart there.nth there.has to_c) [
      | inl same ↦ let up = leads_up b (s + STRIDE * next_of w) a rest in absurd (omega (arith, up, goes, same, le))
      | inr on ↦ leads_between b (s + STRIDE * next_of w) a c apart rest on.1 le
    ]

-- a higher word of the page stands where the next word does, or behind
pub next_or_behind : (b : List ℕ) (number place page a c word : ℕ) → IsAccepted b → IsNth list.Segments b number place
    → IsOnPage b number place page a → IsOnPage b number place page c → HasWord b (segment_there b place) a word → a < c
    → (1 ≤ next_of word) × (a + STRIDE * next_of word ≤ c)
next_or_behind b number place page a c word accepted nth on_a on_c has before =
    let s = chain_segment_at b number place in
    let first = from_start b s page a on_a in
    let second = from_start b s page c on_c in
    let apart = stand_apart b accepted in
    let leads = leads_between b (page_first s page) a c apart first.leads second.leads (omega (arith, before)) in
    elim (leads_next b number place word a c apart nth has leads) [
      | inl same ↦ absurd (omega (arith, same, before))
      | inr on ↦ (on.0, leads_up b (a + STRIDE * next_of word) c on.1)
    ]

-- the next word is on the page
pub next_on_page : (b : List ℕ) (number place page a word : ℕ) → IsNth list.Segments b number place → IsOnPage b number place page a
    → HasWord b (segment_there b place) a word → 1 ≤ next_of word → IsOnPage b number place page (a + STRIDE * next_of word)
next_on_page b number place page a word nth on has goes =
    chain.OnPageChain.next a word on (segment_has_word b number place a word nth has) goes

-- no word of a page stands below its first one
pub first_is_least : (b : List ℕ) (number place page start a : ℕ) → start ≡ slice_index (starts_of b number) page
    → IsOnPage b number place page a → (segment_there b place).vmaddr + SEGMENT_PAGE * page + start ≤ a
first_is_least b number place page start a is on =
    let s = chain_segment_at b number place in
    let up = leads_up b (page_first s page) a (from_start b s page a on).leads in
    subst (λ n. (segment_there b place).vmaddr + SEGMENT_PAGE * page + n ≤ a) (sym is) up
