-- Whether a word of a chain fits, as one test, and what the test says of the last rule of the loader.
--
-- The rule asks that the page's segment holds the word, and of each segment that has a word there that its import exists. So
-- it has a test, and of a chain within a closed list of addresses it is enough to test those.
use Rattle.std.proofs.Common.{◌≡◌, ℕ, ◌+◌, ◌*◌, ◌<◌, ◌≤◌, nat_le, nat_lt, Bool, true, false, not, ◌&&◌, ◌||◌, List, length, get_or, refl, sym, subst}
use Rattle.std.specs.Prelude.{Contains}
use Rattle.std.specs.List.{list_all, enumerate_from}
use Rattle.std.proofs.lemmas.Bool.{leb-true, le-leb, ltb-true, lt-ltb}
use Rattle.std.proofs.lemmas.List.Elements.{All-contains, Contains-get_or}
use Rattle.macho_records.specs.declared.header.SegmentCommand.{SegmentCommand}
use Rattle.macho_model.specs.Images.{segments_of, tables_of}
use Rattle.macho_model.specs.Segments.{SEGMENT_PAGE}
use Rattle.macho_model.specs.Chain.{ChainSegment, chain_segment, chain_segments}
use Rattle.macho_model.specs.Needs.{POINTER_SIZE}
use Rattle.macho_model.specs.Loader.{is_bind, ordinal_of, WordFits}
use Rattle.macho_image_walks.specs.Tests.{page_holds}
use Rattle.macho_image_walks.specs.steps.WordTests.{import_exists, word_fits_test, EachWordFits}
use Rattle.macho_image_walks.specs.steps.Walks.{word_in, stands_in}
use Rattle.macho_model.proofs.EachBelow.{each_below, below_pass}
use Rattle.macho_model.proofs.PageChains.{with_number}
use Rattle.macho_image_walks.proofs.ChainSets.{among_passes, is_page_closed, page_within, page_has_start}
use Rattle.macho_model.specs.steps.Loader.{import_count}
use Rattle.macho_model.specs.SegmentRules.{is_writable}
use Rattle.macho_bytes.proofs.Bools.{and_left, and_right, and_both, or_right, neither, not_true}
use Rattle.macho_bytes.proofs.Members.{all_pass, pass_all}

-- the page of a segment holds a word, in parts
holds_parts : (w f e t : Bool) → (w && f && e && t) ≡ true → (w ≡ true) × (f ≡ true) × (e ≡ true) × (t ≡ true)
holds_parts w f e t h =
    let three = and_left (w && f && e) t h in
    let two = and_left (w && f) e three in
    (and_left w f two, and_right w f two, and_right (w && f) e three, and_right (w && f && e) t h)

-- the import of a word exists, in the segment that has the word
exists : (b : List ℕ) (a : ℕ) (x : ChainSegment) (word : ℕ) → import_exists b a x ≡ true → x.address ≤ a
    → a + POINTER_SIZE ≤ x.address + x.file_size
    → word ≡ word_in b x a → is_bind word ≡ true → ordinal_of word < import_count b (tables_of b)
exists b a x word h from to is binds =
    let whole : stands_in x a ≡ true = and_both (nat_le x.address a) (nat_le (a + POINTER_SIZE) (x.address + x.file_size))
    (le-leb x.address a from) (le-leb (a + POINTER_SIZE) (x.address + x.file_size) to) in
    let bound : is_bind (word_in b x a) ≡ true = subst (λ w. is_bind w ≡ true) is binds in
    subst (λ w. ordinal_of w < import_count b (tables_of b)) (sym is)
    (ltb-true (ordinal_of (word_in b x a)) (import_count b (tables_of b))
    (or_right (not (stands_in x a) || not (is_bind (word_in b x a)))
    (nat_lt (ordinal_of (word_in b x a)) (import_count b (tables_of b))) h
    (neither (not (stands_in x a)) (not (is_bind (word_in b x a))) (not_true (stands_in x a) whole)
    (not_true (is_bind (word_in b x a)) bound))))

-- a word that passes fits
pub word_fits : (b : List ℕ) (s : SegmentCommand) (page a : ℕ) → word_fits_test b s page a ≡ true → WordFits b s page a
word_fits b s page a h =
    let held = holds_parts (is_writable s) (nat_le (s.vmaddr + SEGMENT_PAGE * page) a)
    (nat_le (a + POINTER_SIZE) (s.vmaddr + SEGMENT_PAGE * (page + 1))) (nat_le (a + POINTER_SIZE) (s.vmaddr + s.filesize))
    (and_left (page_holds s page a) (list_all (import_exists b a) (chain_segments b)) h) in
    let imports = all_pass (import_exists b a) (chain_segments b)
    (and_right (page_holds s page a) (list_all (import_exists b a) (chain_segments b)) h) in
    record {
      writable = held.0;
      page_from = leb-true (s.vmaddr + SEGMENT_PAGE * page) a held.1;
      page_to = leb-true (a + POINTER_SIZE) (s.vmaddr + SEGMENT_PAGE * (page + 1)) held.2;
      to = leb-true (a + POINTER_SIZE) (s.vmaddr + s.filesize) held.3;
      import = λ word stands binds. exists b a stands.segment word
          (All-contains (λ y. import_exists b a y ≡ true) (chain_segments b) stands.segment imports stands.one) stands.from stands.to
          stands.is binds;
    }

-- a word that fits passes
pub fits_word : (b : List ℕ) (s : SegmentCommand) (page a : ℕ) → WordFits b s page a → word_fits_test b s page a ≡ true
fits_word b s page a fits =
    and_both (page_holds s page a) (list_all (import_exists b a) (chain_segments b)) held
    (pass_all (import_exists b a) (chain_segments b) (λ k d lt. each (get_or (chain_segments b) k d)
    (Contains-get_or (chain_segments b) k d lt)))
  where
    held : page_holds s page a ≡ true
    held =
        rw (
          fits.writable,
          le-leb (s.vmaddr + SEGMENT_PAGE * page) a fits.page_from,
          le-leb (a + POINTER_SIZE) (s.vmaddr + SEGMENT_PAGE * (page + 1)) fits.page_to,
          le-leb (a + POINTER_SIZE) (s.vmaddr + s.filesize) fits.to,
        ) refl

    each : (x : ChainSegment) → Contains (chain_segments b) x → import_exists b a x ≡ true
    each x one =
        elim (stands_in x a) as (λ t. stands_in x a ≡ t → (not t || not (is_bind (word_in b x a)) || nat_lt (ordinal_of (word_in b x a))
        (import_count b (tables_of b))) ≡ true) [
          | true ↦ λ whole.
              elim (is_bind (word_in b x a)) as (λ t. is_bind (word_in b x a) ≡ t →
              (not t || nat_lt (ordinal_of (word_in b x a)) (import_count b (tables_of b))) ≡ true) [
                | true ↦ λ binds. lt-ltb (ordinal_of (word_in b x a)) (import_count b (tables_of b)) (fits.import (word_in b x a) (record {
                  segment = x;
                  one = one;
                  from = leb-true x.address a (and_left (nat_le x.address a) (nat_le (a + POINTER_SIZE) (x.address + x.file_size)) whole);
                  to = leb-true (a + POINTER_SIZE) (x.address + x.file_size)
                      (and_right (nat_le x.address a) (nat_le (a + POINTER_SIZE) (x.address + x.file_size)) whole);
                  is = refl;
                }) binds)
                | false ↦ λ _. refl
              ] refl
          | false ↦ λ _. refl
        ] refl

-- a page of a segment, by its number, has no start, or its words lie within a closed list that passes
abbrev pub page_passes : List ℕ → (ℕ → List ℕ) → ℕ × SegmentCommand → ℕ → Bool
page_passes b words_of s page =
    is_page_closed (chain_segments b) b (words_of page) (chain_segment b s) page && list_all (word_fits_test b s.1 page) (words_of page)

abbrev pub starts_in_chain : List ℕ → ℕ × SegmentCommand → ℕ
starts_in_chain b s = length (chain_segment b s).starts

abbrev pub pages_pass : List ℕ → (ℕ → List ℕ) → Bool
pages_pass b words_of = list_all (λ s. each_below (starts_in_chain b s) (page_passes b words_of s)) (enumerate_from 0 (segments_of b))

-- The words of each page's chain fit, where a list of addresses for each page passes.
pub words_fit : (b : List ℕ) (words_of : ℕ → List ℕ) → pages_pass b words_of ≡ true → EachWordFits b
words_fit b words_of pass number s page a is on =
    let one = with_number b number s is in
    let c = chain_segment b (number, s) in
    let here = All-contains (λ x. each_below (starts_in_chain b x) (page_passes b words_of x) ≡ true) (enumerate_from 0 (segments_of b))
    (number, s)
    (all_pass (λ x. each_below (starts_in_chain b x) (page_passes b words_of x)) (enumerate_from 0 (segments_of b)) pass) one in
    let both = below_pass (length c.starts) (page_passes b words_of (number, s)) here page
    (page_has_start (chain_segments b) b c page a on) in
    let closed = and_left (is_page_closed (chain_segments b) b (words_of page) c page)
    (list_all (word_fits_test b s page) (words_of page)) both in
    let fit = and_right (is_page_closed (chain_segments b) b (words_of page) c page) (list_all (word_fits_test b s page) (words_of page))
    both in
    word_fits b s page a (among_passes (word_fits_test b s page) (words_of page) a fit
    (page_within (chain_segments b) b (words_of page) c page closed a on))
