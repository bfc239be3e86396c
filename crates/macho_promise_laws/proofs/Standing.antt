-- What stands in the whole file.
--
-- A section was filled before the words, which leave its other bytes; what is in its range then is in its range at the end, since the texts
-- behind stand elsewhere. The same of stubs. Words lie in ranges of sections and slots. What is in no range was never written.
use Rattle.std.proofs.Common.{◌≡◌, ℕ, inl, inr, List, ◌++◌, map, length, not, slice_index, sym, ap, subst, ◌∙◌, arith, Contains}
use Rattle.std.proofs.lemmas.List.Elements.{All-append, Contains-append_left, Contains-append_right}
use Rattle.macho_records.specs.Sections.{is_zerofill}
use Rattle.macho_bytes.specs.Texts.{Part, Stands, IsOutside}
use Rattle.macho_bytes.specs.Images.{zeros}
use Rattle.macho_model.specs.declared.placed.Counts.{Counts}
use Rattle.macho_model.specs.declared.placed.PlacedSection.{PlacedSection}
use Rattle.macho_model.specs.declared.placed.Stub.{Stub}
use Rattle.macho_model.specs.Links.{Link, header_at}
use Rattle.macho_model.specs.WrittenSum.{STUB_SIZE}
use Rattle.macho_model.specs.Placement.{Placed, id_of}
use Rattle.macho_model.specs.Zeros.{Span}
use Rattle.macho_model.specs.Addresses.{offset_in_file}
use Rattle.macho_fixups.specs.declared.run.Fixup.{Fixup}
use Rattle.macho_fixups.specs.Chains.{AllStand}
use Rattle.macho_bytes.proofs.Members.{all_contains, contains_all, contains_map, contains_filter}
use Rattle.macho_promise.specs.Filled.{IsFilled, StubIsSet, bytes_in_file}
use Rattle.macho_promise.specs.FixupsSay.{fixup_segments}
use Rattle.macho_contents.specs.ChainingLaws.{WordsStay, AgreeIn, word_ranges}
use Rattle.macho_contents.specs.Filled.{IsSectionPart, IsStubPart}
use Rattle.macho_placed_laws.specs.Parts.{written, IsMadeOf, part_now}
use Rattle.macho_image_laws.specs.Composed.{SectionIsWritten, StubIsWritten}
use Rattle.macho_image_laws.specs.Laws.{IsPlacedLink, SectionsStayFilled, StubsStaySet}
use Rattle.macho_promise_laws.specs.Written.{AreContents, Texts, TextsFit, text_parts, content_ranges, AreStanding}
use Rattle.macho_promise_laws.proofs.Pieces.{zero_part}
use Rattle.macho_promise_laws.proofs.Exactly.{Fills, part_of, part_in, outside_parts}
use Rattle.macho_promise_laws.proofs.Slices.{text_in, slices_same, byte_same, now_fill}
use Rattle.macho_promise_laws.proofs.Contents.{Grounds, section_ranges, slot_ranges, filled_parts, sections_fill, contents_fill, contents_made, words_made}
use Rattle.macho_promise_laws.proofs.Behind.{TablesBegin, all_made}
use Rattle.macho_model.specs.Spans.{filled_sections}

-- and the laws on words
pub record WordLaws (l : Link) (counts : Counts) (p : Placed) : Type 0 where
  pub link : IsPlacedLink l counts p
  pub sections : SectionsStayFilled
  pub stubs : StubsStaySet
  pub words : WordsStay

-- the file before words and after them, and the whole file, with a part of contents in all three
pub record Has (before now b : List ℕ) (q : Part) : Type 0 where
  pub first : Stands before q
  pub long : length now ≡ length before
  pub last : Stands b (part_now now q)

pub record Whole (l : Link) (counts : Counts) (p : Placed) (run : List Fixup) (n : ℕ) (now : List ℕ) (t : Texts)
    (c : AreContents l p run n now) : Type 0 where
  pub before : IsMadeOf n (filled_parts c) c.before
  pub words : IsMadeOf n (map (part_now now) (filled_parts c)) now
  pub last : IsMadeOf n (map (part_now now) (filled_parts c) ++ text_parts p t) (written (text_parts p t) now)

has : (l : Link) (counts : Counts) (p : Placed) (run : List Fixup) (n : ℕ) (now : List ℕ) (t : Texts) (c : AreContents l p run n now)
    → Whole l counts p run n now t c → (q : Part) → Contains (filled_parts c) q → Has c.before now (written (text_parts p t) now) q
has l counts p run n now t c w q there = record {
  first = all_contains (Stands c.before) (filled_parts c) q w.before.each there;
  long = w.words.size ∙ sym w.before.size;
  last = all_contains (Stands (written (text_parts p t) now)) (map (part_now now) (filled_parts c) ++ text_parts p t) (part_now now q)
      w.last.each
      (Contains-append_left (map (part_now now) (filled_parts c)) (text_parts p t) (part_now now q)
      (contains_map (part_now now) (filled_parts c) q there));
}

section_stands : (l : Link) (counts : Counts) (p : Placed) (run : List Fixup) (n : ℕ) (now : List ℕ) (t : Texts)
    (c : AreContents l p run n now)
    → WordLaws l counts p → Whole l counts p run n now t c → (q : PlacedSection) → Contains p.sections q
    → SectionIsWritten l (written (text_parts p t) now) p q
section_stands l counts p run n now t c laws w q there zero =
    let size = (header_at l (id_of q)).size in
    let found = part_of (IsSectionPart l p (length (zeros n))) (filled_sections l p) c.filled.sections.parts q c.filled.sections.each
    (contains_filter (λ (s : PlacedSection). not (is_zerofill (header_at l (id_of s)))) p.sections q there (ap not zero)) in
    let h = has l counts p run n now t c w found.0
    (Contains-append_left (c.filled.sections.parts ++ map zero_part (slot_ranges p)) c.filled.stubs.parts found.0
    (Contains-append_left c.filled.sections.parts (map zero_part (slot_ranges p)) found.0 found.1)) in
    let first : IsFilled l p q (bytes_in_file c.before p q.address size) =
    subst (IsFilled l p q) (sym (text_in c.before found.0 (offset_in_file p q.address) size h.first found.2.place found.2.filled.long))
    found.2.filled in
    let words : IsFilled l p q (bytes_in_file now p q.address size) =
    laws.sections l counts p run c.before now q laws.link c.chained.written there zero first in
    subst (IsFilled l p q)
    (sym (slices_same c.before now (written (text_parts p t) now) found.0 (offset_in_file p q.address) size h.first h.long h.last
    found.2.place found.2.filled.long))
    words

stub_stands : (l : Link) (counts : Counts) (p : Placed) (run : List Fixup) (n : ℕ) (now : List ℕ) (t : Texts)
    (c : AreContents l p run n now)
    → WordLaws l counts p → Whole l counts p run n now t c → (s : Stub) → Contains p.stubs s
    → StubIsWritten (written (text_parts p t) now) p s
stub_stands l counts p run n now t c laws w s there =
    let found = part_of (IsStubPart p (length c.filled.between)) p.stubs c.filled.stubs.parts s c.filled.stubs.each there in
    let h = has l counts p run n now t c w found.0
    (Contains-append_right (c.filled.sections.parts ++ map zero_part (slot_ranges p)) c.filled.stubs.parts found.0 found.1) in
    let first : StubIsSet p s (bytes_in_file c.before p s.address STUB_SIZE) =
    subst (StubIsSet p s) (sym (text_in c.before found.0 (offset_in_file p s.address) STUB_SIZE h.first (λ some. found.2.place)
    found.2.set.long)) found.2.set in
    let words : StubIsSet p s (bytes_in_file now p s.address STUB_SIZE) =
    laws.stubs l counts p run c.before now s laws.link c.chained.written there first in
    subst (StubIsSet p s)
    (sym (slices_same c.before now (written (text_parts p t) now) found.0 (offset_in_file p s.address) STUB_SIZE h.first h.long h.last
    (λ some. found.2.place)
    found.2.set.long)) words

words_stand : (l : Link) (counts : Counts) (p : Placed) (run : List Fixup) (n : ℕ) (now : List ℕ) (t : Texts)
    (c : AreContents l p run n now)
    → Grounds l counts p n → WordLaws l counts p → Whole l counts p run n now t c
    → AllStand (fixup_segments p) run (written (text_parts p t) now)
unfolding word_ranges
words_stand l counts p run n now t c g laws w =
    laws.words l counts p run c.before now (written (text_parts p t) now) g.can c.chained.written (w.last.size ∙ sym w.words.size)
    (contains_all (AgreeIn now (written (text_parts p t) now)) (section_ranges l p ++ slot_ranges p) agree)
  where
    agree : (s : Span) → Contains (section_ranges l p ++ slot_ranges p) s → AgreeIn now (written (text_parts p t) now) s
    agree s there i from to =
        let found = part_in (c.filled.sections.parts ++ map zero_part (slot_ranges p)) (section_ranges l p ++ slot_ranges p) s
        (sections_fill l p run n now c) there in
        let h = has l counts p run n now t c w found.0
        (Contains-append_left (c.filled.sections.parts ++ map zero_part (slot_ranges p)) c.filled.stubs.parts found.0 found.1) in
        by found.0 h found.2
      where
        by : (q : Part) → Has c.before now (written (text_parts p t) now) q → Fills q s
            → slice_index (written (text_parts p t) now) i ≡ slice_index now i
        by q h (inl none) = absurd (omega (arith, none.1, from, to))
        by q h (inr is) =
            byte_same c.before now (written (text_parts p t) now) q i h.first h.long h.last (omega (arith, from, is.0))
            (omega (arith, to, is.0, is.1))

-- THE parts stand
pub are_standing : (l : Link) (counts : Counts) (p : Placed) (run : List Fixup) (n : ℕ) (now : List ℕ) (t : Texts) → Grounds l counts p n
    → WordLaws l counts p → TablesBegin p n → (c : AreContents l p run n now) → TextsFit counts p t
    → AreStanding l p run t n (written (text_parts p t) now)
are_standing l counts p run n now t g laws begin c fit = record {
  size = w.last.size;
  sections = contains_all (SectionIsWritten l (written (text_parts p t) now) p) p.sections (section_stands l counts p run n now t c laws w);
  stubs = contains_all (StubIsWritten (written (text_parts p t) now) p) p.stubs (stub_stands l counts p run n now t c laws w);
  words = words_stand l counts p run n now t c g laws w;
  texts = contains_all (Stands (written (text_parts p t) now)) (text_parts p t)
      (λ q there. all_contains (Stands (written (text_parts p t) now)) (map (part_now now) (filled_parts c) ++ text_parts p t) q w.last.each
      (Contains-append_right (map (part_now now) (filled_parts c)) (text_parts p t) q there));
  rest = λ i outside beside.
      w.last.rest i (All-append (IsOutside i) (map (part_now now) (filled_parts c)) (text_parts p t)
      (outside_parts i (map (part_now now) (filled_parts c)) (content_ranges l p)
      (now_fill c.before now (filled_parts c) (content_ranges l p) w.before.each (w.words.size ∙ sym w.before.size)
      (contents_fill l p run n now c)) outside) beside);
}
  where
    w : Whole l counts p run n now t c
    w = record {
      before = contents_made l counts p run n now g c;
      words = words_made l counts p run n now g c;
      last = all_made l counts p run n now t g begin c fit;
    }
