-- What stands on the chain of an accepted image at an address.
--
-- Each word on the chain fits in the page of a segment, so the segment has a word there; and one segment alone has a word at an
-- address, by its number too. So a look-up asks that segment, and the page that the address is in. A walk from the page's
-- start that stands below the address leads there exactly where its next word does.
use Rattle.std.proofs.Common.{◌≡◌, ℕ, ◌+◌, ◌*◌, ◌-◌, ◌/◌, ◌<◌, ◌≤◌, true, List, length, get_or, slice_index, refl, ap, subst, arith, inl, inr}
use Rattle.std.proofs.lemmas.Bool.{cases_lt}
use Rattle.std.proofs.lemmas.List.{get_or_default}
use Rattle.macho_bytes.specs.Numbers.{le_at}
use Rattle.macho_model.specs.Images.{segments_of, fixups_header, NO_START}
use Rattle.macho_model.specs.Segments.{SEGMENT_PAGE}
use Rattle.macho_model.specs.Chain.{chain_segments, next_of, STRIDE, OnChainOf, OnPageChain}
use Rattle.macho_model.specs.Needs.{POINTER_SIZE}
use Rattle.macho_model.specs.Loader.{IsAccepted, WordFits, is_bind, ordinal_of}
use Rattle.macho_image_walks.specs.declared.walk.Listed.TheVariants as list
use Rattle.macho_image_walks.specs.Readings.{IsNth, HasWord, listed, segment_there, table_there, starts_of}
use Rattle.macho_image_walks.specs.steps.Walks.{Leads, chain_segment_at}
use Rattle.macho_image_walks.specs.steps.WordTests.{address_in, FitFrom}
use Rattle.macho_model.proofs.Apart.{EndsBefore, all_rise}
use Rattle.macho_image_walks.proofs.ChainSets.{page_has_start}
use Rattle.macho_image_walks.proofs.NumberedWalk.{numbered_segment, nth_number, nth_one, segment_has_word}
use Rattle.macho_image_walks.proofs.WordWalk.{on_some_page, starts_missing, leads_no_lower, page_chain_found, page_chain_only}
use Rattle.macho_image_walks.proofs.RuleWalk.{import_count_found}
use Rattle.macho_loader.specs.steps.Words.{StandApart, IsFittingWord, IsReached}
use Rattle.macho_loader.specs.steps.Held.{IsOnWay}
use Rattle.macho_loader.proofs.ChainWalks.{holds_address, leads_next, reached_more}

-- the segments of an accepted image stand apart
pub stand_apart : (b : List ℕ) → IsAccepted b → StandApart b
stand_apart b accepted = record { inside = accepted.l4; rise = accepted.l6.1 }

-- a segment that has a word there does not come before another one that has
not_before : (b : List ℕ) (i p j q a w v : ℕ) → StandApart b → IsNth list.Segments b i p → IsNth list.Segments b j q
    → HasWord b (segment_there b p) a w → HasWord b (segment_there b q) a v → i < j → ⊥
not_before b i p j q a w v apart at_i at_j has_w has_v before =
    let s = segment_there b p in
    let t = segment_there b q in
    let one = nth_number b i p at_i in
    let other = nth_number b j q at_j in
    let ends : EndsBefore s t = rw (← one.1, ← other.1) (subst (λ x. EndsBefore x (get_or (segments_of b) j t))
    (get_or_default (segments_of b) i t s one.0) (all_rise (segments_of b) apart.rise i j t before other.0)) in
    let in_s = holds_address b i p a w apart at_i has_w in
    let in_t = holds_address b j q a v apart at_j has_v in
    omega (arith, ends, in_s.1, in_t.0)

pub one_number : (b : List ℕ) (i p j q a w v : ℕ) → StandApart b → IsNth list.Segments b i p → IsNth list.Segments b j q
    → HasWord b (segment_there b p) a w → HasWord b (segment_there b q) a v → i ≡ j
one_number b i p j q a w v apart at_i at_j has_w has_v =
    elim (cases_lt i j) [
      | inl before ↦ absurd (not_before b i p j q a w v apart at_i at_j has_w has_v before)
      | inr le ↦ elim (cases_lt j i) [
        | inl before ↦ absurd (not_before b j q i p a v w apart at_j at_i has_v has_w before)
        | inr ge ↦ omega (arith, le, ge)
      ]
    ]

-- where a word on the chain stands
pub record Stands (b : List ℕ) (a : ℕ) : Type 0 where
  pub number : ℕ
  pub place : ℕ
  pub page : ℕ
  pub nth : IsNth list.Segments b number place
  pub on : OnPageChain (chain_segments b) b (chain_segment_at b number place) page a
  pub fits : WordFits b (segment_there b place) page a
  pub has : HasWord b (segment_there b place) a (le_at POINTER_SIZE b ((segment_there b place).fileoff +
      (a - (segment_there b place).vmaddr)))

pub stands_on_page : (b : List ℕ) (a : ℕ) → IsAccepted b → OnChainOf b a → Stands b a
stands_on_page b a accepted on =
    let some = on_some_page b a on in
    let n = numbered_segment b some.segment some.one in
    let here = subst (λ s. OnPageChain (chain_segments b) b s some.page a) n.is some.on in
    let fits = accepted.l10 n.number (segment_there b n.place) some.page a (nth_number b n.number n.place n.nth) here in
    let from = fits.page_from in
    record {
      number = n.number;
      place = n.place;
      page = some.page;
      nth = n.nth;
      on = here;
      fits = fits;
      has = record { from = omega (arith, from); to = fits.to; is = refl };
    }

-- it is on the chain of its page, in the segment that has a word there
pub on_its_page : (b : List ℕ) (number place page a word : ℕ) → IsAccepted b → IsNth list.Segments b number place
    → HasWord b (segment_there b place) a word → page ≡ (a - (segment_there b place).vmaddr) / 16384 → OnChainOf b a
    → OnPageChain (chain_segments b) b (chain_segment_at b number place) page a
on_its_page b number place page a word accepted nth has is on =
    let s = stands_on_page b a accepted on in
    let w = le_at POINTER_SIZE b ((segment_there b s.place).fileoff + (a - (segment_there b s.place).vmaddr)) in
    let same : s.number ≡ number = one_number b s.number s.place number place a w word (stand_apart b accepted) s.nth nth s.has has in
    let there : s.place ≡ place = nth_one list.Segments b number s.place place (subst (λ k. IsNth list.Segments b k s.place) same s.nth)
    nth in
    let fits = subst (λ p. WordFits b (segment_there b p) s.page a) there s.fits in
    let from = fits.page_from in
    let to = fits.page_to in
    let at : s.page ≡ page = omega (arith, is, from, to) in
    subst (λ k. OnPageChain (chain_segments b) b (chain_segment_at b number place) k a) at
    (subst (λ p. OnPageChain (chain_segments b) b (chain_segment_at b number p) s.page a) there
    (subst (λ k. OnPageChain (chain_segments b) b (chain_segment_at b k s.place) s.page a) same s.on))

-- without a fixup table nothing is on the chain
pub off_without_table : (b : List ℕ) (a : ℕ) → IsAccepted b → length (listed list.Tables b) ≤ 0 → OnChainOf b a → ⊥
off_without_table b a accepted none on =
    let s = stands_on_page b a accepted on in
    let within = page_has_start (chain_segments b) b (chain_segment_at b s.number s.place) s.page a s.on in
    let empty = ap (λ (xs : List ℕ). length xs) (starts_missing b s.number none) in
    omega (arith, within, empty)

-- the import of a word that binds
pub import_among : (b : List ℕ) (number place table a word : ℕ) → IsAccepted b → IsNth list.Tables b 0 table
    → IsNth list.Segments b number place → HasWord b (segment_there b place) a word → OnChainOf b a → is_bind word ≡ true
    → ordinal_of word < (fixups_header b (table_there b table)).imports_count
import_among b number place table a word accepted first nth has on binds =
    let s = stands_on_page b a accepted on in
    let below = s.fits.import word (segment_has_word b number place a word nth has) binds in
    omega (arith, below, import_count_found b table first)

-- the words that a page's start leads to fit
pub all_fit_from : (b : List ℕ) (number place page start : ℕ) → IsAccepted b → IsNth list.Segments b number place
    → ((a : ℕ) → Leads b (address_in b place (16384 * page + start)) a
    → OnPageChain (chain_segments b) b (chain_segment_at b number place) page a) → FitFrom b number place page (16384 * page + start)
all_fit_from b number place page start accepted nth on a leads =
    accepted.l10 number (segment_there b place) page a (nth_number b number place nth) (on a leads)

-- a walk on its way: it begins, and goes on from a word below its end
pub way_first : (b : List ℕ) (place page from to : ℕ) → IsReached b place page from from → IsOnWay b place page from to from
way_first b place page from to reached = record { reached = reached; onward = λ leads. leads }

pub way_more : (b : List ℕ) (number place page from to offset word stride : ℕ) → StandApart b → IsNth list.Segments b number place
    → page < 65536 → IsOnWay b place page from to offset → IsFittingWord b place page (address_in b place offset) word
    → stride ≡ STRIDE * next_of word → stride < 16384 → 1 ≤ stride → offset < to → IsOnWay b place page from to (offset + stride)
way_more b number place page from to offset word stride apart nth pages way fitting is short some below =
    let there : address_in b place offset + STRIDE * next_of word ≡ address_in b place (offset + stride) = omega (arith, is) in
    record {
      reached = reached_more b number place page from offset word stride apart nth pages way.reached fitting is short some;
      onward = λ leads.
          elim (leads_next b number place word (address_in b place offset) (address_in b place to) apart nth fitting.has
          (way.onward leads)) [
            | inl here ↦ absurd (omega (arith, here, below))
            | inr on ↦ subst (λ x. Leads b x (address_in b place to)) there on.1
          ];
    }

-- it ends where the chain does, at a word that does not fit, or behind its end
pub way_ends : (b : List ℕ) (number place page from to offset word stride : ℕ) → StandApart b → IsNth list.Segments b number place
    → IsOnWay b place page from to offset → IsFittingWord b place page (address_in b place offset) word
    → stride ≡ STRIDE * next_of word → stride ≡ 0 → offset < to → Leads b (address_in b place from) (address_in b place to) → ⊥
way_ends b number place page from to offset word stride apart nth way fitting is none below leads =
    elim (leads_next b number place word (address_in b place offset) (address_in b place to) apart nth fitting.has (way.onward leads)) [
      | inl here ↦ omega (arith, here, below)
      | inr on ↦ let goes = on.0 in omega (arith, goes, is, none)
    ]

pub way_passes : (b : List ℕ) (place page from to offset : ℕ) → IsOnWay b place page from to offset → to < offset
    → Leads b (address_in b place from) (address_in b place to) → ⊥
way_passes b place page from to offset way past leads =
    leads_no_lower b (address_in b place offset) (address_in b place to) (omega (arith, past)) (way.onward leads)

-- the page that an address is in, and its first word
pub page_within : (b : List ℕ) (number place page a : ℕ) → OnPageChain (chain_segments b) b (chain_segment_at b number place) page a
    → page < length (starts_of b number)
page_within b number place page a on = page_has_start (chain_segments b) b (chain_segment_at b number place) page a on

pub led_from_start : (b : List ℕ) (number place page start a : ℕ) → page < length (starts_of b number)
    → start ≡ slice_index (starts_of b number) page → (start ≡ NO_START → ⊥) → Leads b (address_in b place (16384 * page + start)) a
    → OnPageChain (chain_segments b) b (chain_segment_at b number place) page a
led_from_start b number place page start a within is some leads =
    let same : address_in b place (16384 * page + start) ≡ (segment_there b place).vmaddr + SEGMENT_PAGE * page + start = omega arith in
    page_chain_found b number place page a (segment_there b place).vmaddr start within is some refl (subst (λ x. Leads b x a) same leads)

pub not_led_from_start : (b : List ℕ) (number place page start a : ℕ) → start ≡ slice_index (starts_of b number) page
    → (Leads b (address_in b place (16384 * page + start)) a → ⊥)
    → OnPageChain (chain_segments b) b (chain_segment_at b number place) page a → ⊥
not_led_from_start b number place page start a is none on =
    let same : (segment_there b place).vmaddr + SEGMENT_PAGE * page + start ≡ address_in b place (16384 * page + start) = omega arith in
    page_chain_only b number place page a (segment_there b place).vmaddr start is refl
    (λ leads. none (subst (λ x. Leads b x a) same leads)) on

-- an offset in the segment stands for its address
pub address_back : (b : List ℕ) (place a word address : ℕ) → HasWord b (segment_there b place) a word
    → address ≡ (segment_there b place).vmaddr → address_in b place (a - address) ≡ a
address_back b place a word address has at = let from = has.from in omega (arith, from, at)
