-- The walk along a page's chain, which stops at the first word that does not fit.
--
-- Segments that stand in order share no address, and the file bytes of each are in its memory. So of all segments one alone
-- has a word at an address, and a word that fits has one next word. What it leads to is itself and what that next one leads
-- to: the walk keeps that all fit where the rest fits. A step leads upwards, and a word that fits is in its page, so the
-- walk ends.
use Rattle.std.proofs.Common.{◌≡◌, ℕ, ◌+◌, ◌*◌, ◌-◌, ◌<◌, ◌≤◌, ◌^◌, nat_le, true, ◌&&◌, List, length, slice_index, refl, sym, ap, subst, ◌∙◌, arith, inl, inr, ◌⊎◌}
use Rattle.std.proofs.lemmas.Bool.{leb-true}
use Rattle.macho_bytes.specs.Numbers.{le_at}
use Rattle.macho_records.specs.declared.header.SegmentCommand.{SegmentCommand}
use Rattle.macho_model.specs.Images.{segments_of, tables_of, fixups_header, page_start}
use Rattle.macho_model.specs.Segments.{SEGMENT_PAGE}
use Rattle.macho_model.specs.Chain.{chain_segments, IsFileWord, next_of, STRIDE}
use Rattle.macho_model.specs.Needs.{POINTER_SIZE}
use Rattle.macho_model.specs.Loader.{WordFits, is_bind, ordinal_of}
use Rattle.macho_image_walks.specs.declared.walk.Listed.TheVariants as list
use Rattle.macho_image_walks.specs.Readings.{IsNth, HasWord, segment_there, table_there, starts_in, starts_of}
use Rattle.macho_image_walks.specs.Tests.{page_holds}
use Rattle.macho_image_walks.specs.steps.Walks.{Leads}
use Rattle.macho_image_walks.specs.steps.Walks as walks
use Rattle.macho_image_walks.specs.steps.WordTests.{address_in, FitFrom}
use Rattle.macho_model.proofs.Apart.{Holds_address, all_rise, one_holds}
use Rattle.macho_image_walks.proofs.NumberedWalk.{word_in_segment, segment_has_word, nth_number}
use Rattle.macho_image_walks.proofs.WordWalk.{leads_more, starts_found, start_is}
use Rattle.macho_image_walks.proofs.RuleWalk.{import_count_found}
use Rattle.macho_image_walks.proofs.UnfitWords.{kept_at}
use Rattle.macho_loader.specs.steps.Words.{StandApart, IsFittingWord, IsReached}
use Rattle.macho_model.specs.steps.Loader.{import_count}
use Rattle.macho_model.specs.SegmentRules.{is_writable}
use Rattle.macho_bytes.proofs.Bools.{and_left, and_right}

-- a segment that has a word there holds its address in memory
pub holds_address : (b : List ℕ) (number place a word : ℕ) → StandApart b → IsNth list.Segments b number place
    → HasWord b (segment_there b place) a word → Holds_address (segment_there b place) a
holds_address b number place a word apart nth has =
    let s = segment_there b place in
    let small = leb-true s.filesize s.vmsize (and_right (nat_le (s.fileoff + s.filesize) (length b)) (nat_le s.filesize s.vmsize)
    (kept_at b number place apart.inside nth)) in
    let to = has.to in
    (has.from, omega (arith, small, to))

-- so one segment alone has a word there
pub one_segment : (b : List ℕ) (i p j q a w v : ℕ) → StandApart b → IsNth list.Segments b i p → IsNth list.Segments b j q
    → HasWord b (segment_there b p) a w → HasWord b (segment_there b q) a v → segment_there b p ≡ segment_there b q
one_segment b i p j q a w v apart at_i at_j has_w has_v =
    let one = nth_number b i p at_i in
    let other = nth_number b j q at_j in
    one_holds (segments_of b) (segment_there b p) (segment_there b q) a (all_rise (segments_of b) apart.rise) (i, one.0, one.1)
    (j, other.0, other.1)
    (holds_address b i p a w apart at_i has_w) (holds_address b j q a v apart at_j has_v)

-- and the word of the file is that one
pub file_word_is : (b : List ℕ) (number place a word v : ℕ) → StandApart b → IsNth list.Segments b number place
    → HasWord b (segment_there b place) a word → IsFileWord (chain_segments b) b a v → v ≡ word
file_word_is b number place a word v apart nth has stands =
    let there = word_in_segment b a v stands in
    let same = one_segment b there.number there.place number place a v word apart there.nth nth there.has has in
    there.has.is ∙ ap (λ (s : SegmentCommand). le_at POINTER_SIZE b (s.fileoff + (a - s.vmaddr))) same ∙ sym has.is

-- a word that its page holds, and whose import exists, fits; and back
pub fits_here : (b : List ℕ) (number place page a word : ℕ) → StandApart b → IsNth list.Segments b number place
    → page_holds (segment_there b place) page a ≡ true → HasWord b (segment_there b place) a word
    → (is_bind word ≡ true → ordinal_of word < import_count b (tables_of b)) → WordFits b (segment_there b place) page a
fits_here b number place page a word apart nth holds has import =
    let s = segment_there b place in
    let all = and_left (is_writable s && nat_le (s.vmaddr + SEGMENT_PAGE * page) a && nat_le (a + POINTER_SIZE)
    (s.vmaddr + SEGMENT_PAGE * (page + 1)))
    (nat_le (a + POINTER_SIZE) (s.vmaddr + s.filesize)) holds in
    let both = and_left (is_writable s && nat_le (s.vmaddr + SEGMENT_PAGE * page) a)
    (nat_le (a + POINTER_SIZE) (s.vmaddr + SEGMENT_PAGE * (page + 1))) all in
    record {
      writable = and_left (is_writable s) (nat_le (s.vmaddr + SEGMENT_PAGE * page) a) both;
      page_from = leb-true (s.vmaddr + SEGMENT_PAGE * page) a (and_right (is_writable s) (nat_le (s.vmaddr + SEGMENT_PAGE * page) a) both);
      page_to = leb-true (a + POINTER_SIZE) (s.vmaddr + SEGMENT_PAGE * (page + 1))
          (and_right (is_writable s && nat_le (s.vmaddr + SEGMENT_PAGE * page) a)
          (nat_le (a + POINTER_SIZE) (s.vmaddr + SEGMENT_PAGE * (page + 1))) all);
      to = has.to;
      import = λ v stands binds.
          let same = file_word_is b number place a word v apart nth has stands in
          subst (λ x. ordinal_of x < import_count b (tables_of b)) (sym same) (import (subst (λ x. is_bind x ≡ true) same binds));
    }

pub import_is_there : (b : List ℕ) (number place table page a word : ℕ) → IsNth list.Tables b 0 table → IsNth list.Segments b number place
    → HasWord b (segment_there b place) a word → WordFits b (segment_there b place) page a → is_bind word ≡ true
    → ordinal_of word < (fixups_header b (table_there b table)).imports_count
import_is_there b number place table page a word first nth has fits binds =
    let below = fits.import word (segment_has_word b number place a word nth has) binds in
    omega (arith, below, import_count_found b table first)

-- what a word of the file leads to is itself, or what its next word leads to
pub leads_next : (b : List ℕ) (number place word a c : ℕ) → StandApart b → IsNth list.Segments b number place
    → HasWord b (segment_there b place) a word → Leads b a c → (a ≡ c) ⊎ ((1 ≤ next_of word) × Leads b (a + STRIDE * next_of word) c)
leads_next b number place word _ _ apart nth has (walks.Leads.here a) = inl refl
leads_next b number place word _ _ apart nth has (walks.Leads.on a v c stands goes rest) =
    let same = file_word_is b number place a word v apart nth has stands in
    inr (subst (λ x. 1 ≤ next_of x) same goes, subst (λ x. Leads b (a + STRIDE * next_of x) c) same rest)

-- the walk begins
pub reached_first : (b : List ℕ) (place page from : ℕ) → from < 2 ^ 31 → IsReached b place page from from
reached_first b place page from small =
    record { leads = walks.Leads.here (address_in b place from); rest = λ fit. fit; small = small }

-- it goes on from a word that fits
pub reached_more : (b : List ℕ) (number place page from offset word stride : ℕ) → StandApart b → IsNth list.Segments b number place
    → page < 65536 → IsReached b place page from offset → IsFittingWord b place page (address_in b place offset) word
    → stride ≡ STRIDE * next_of word → stride < 16384 → 1 ≤ stride → IsReached b place page from (offset + stride)
reached_more b number place page from offset word stride apart nth pages reached fitting is short some =
    let goes : 1 ≤ next_of word = omega (arith, is, some) in
    let there : address_in b place offset + STRIDE * next_of word ≡ address_in b place (offset + stride) = omega (arith, is) in
    let page_to = fitting.fits.page_to in
    record {
      leads = subst (λ x. Leads b (address_in b place from) x) there (leads_more b (address_in b place from) (address_in b place offset)
          word
          reached.leads (segment_has_word b number place (address_in b place offset) word nth fitting.has) goes);
      rest = λ fit. reached.rest (λ c leads.
          elim (leads_next b number place word (address_in b place offset) c apart nth fitting.has leads) [
            | inl here ↦ subst (λ x. WordFits b (segment_there b place) page x) here fitting.fits
            | inr on ↦ fit c (subst (λ x. Leads b x c) there on.1)
          ]);
      small = omega (arith, page_to, short, pages);
    }

-- at the last word all fit
pub all_fit : (b : List ℕ) (number place page from offset word stride : ℕ) → StandApart b → IsNth list.Segments b number place
    → IsReached b place page from offset → IsFittingWord b place page (address_in b place offset) word
    → stride ≡ STRIDE * next_of word → stride ≡ 0 → FitFrom b number place page from
all_fit b number place page from offset word stride apart nth reached fitting is none =
    reached.rest (λ c leads.
    elim (leads_next b number place word (address_in b place offset) c apart nth fitting.has leads) [
      | inl here ↦ subst (λ x. WordFits b (segment_there b place) page x) here fitting.fits
      | inr on ↦ let goes = on.0 in absurd (omega (arith, goes, is, none))
    ])

-- the start of a page and the number of pages, by the first table
pub start_found : (b : List ℕ) (number table page start : ℕ) → IsNth list.Tables b 0 table → page < length (starts_of b number)
    → start ≡ page_start b (table_there b table) number page → start ≡ slice_index (starts_of b number) page
start_found b number table page start first within is =
    let same = starts_found b number table first in
    is ∙ start_is b (table_there b table) number page (subst (λ xs. page < length xs) same within)
    ∙ sym (ap (λ (xs : List ℕ). slice_index xs page) same)

pub pages_found : (b : List ℕ) (number table : ℕ) → IsNth list.Tables b 0 table
    → length (starts_of b number) ≡ length (starts_in b (table_there b table) number)
pages_found b number table first = ap (λ (xs : List ℕ). length xs) (starts_found b number table first)
