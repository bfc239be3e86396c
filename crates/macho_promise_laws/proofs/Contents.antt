-- The file while its contents are written: sections, slots and stubs fill their ranges, from zeros to the words over them.
--
-- Ranges of a placed link share no byte. So sections stand once all are written, slots are zeros, stubs stand beside; and the words,
-- which lie in sections and slots, leave every byte outside these ranges.
use Rattle.std.proofs.Common.{◌≡◌, ℕ, suc, ◌+◌, ◌≤◌, inl, inr, ◌==◌, Bool, true, false, List, [], ◌∷◌, ◌++◌, map, length, slice_index, refl, sym, subst, ◌∙◌, arith, eqb-true, All}
use Rattle.std.proofs.lemmas.Bool.Decides.{nat_tests}
use Rattle.std.proofs.lemmas.List.{length-replicate, get_or-replicate, get_or_past}
use Rattle.std.proofs.lemmas.List.Elements.{All-nil, All-cons}
use Rattle.std.proofs.lemmas.Bool.{cases_lt}
use Rattle.macho_bytes.specs.Texts.{Part, end_of, Stands, IsOutside}
use Rattle.macho_bytes.specs.Images.{zeros}
use Rattle.macho_model.specs.declared.placed.Counts.{Counts}
use Rattle.macho_model.specs.declared.placed.PlacedSection.{PlacedSection}
use Rattle.macho_model.specs.declared.placed.Slot.{Slot}
use Rattle.macho_model.specs.declared.placed.Stub.{Stub}
use Rattle.macho_model.specs.Links.{Link}
use Rattle.macho_model.specs.Placement.{Placed, IsPlaced}
use Rattle.macho_model.specs.Zeros.{Span}
use Rattle.macho_model.specs.Spans.{AreApart, section_span, slot_span, stub_span, filled_sections, in_file}
use Rattle.macho_model.specs.Addresses.{offset_in_file}
use Rattle.macho_model.specs.Needs.{POINTER_SIZE}
use Rattle.macho_fixups.specs.declared.run.Fixup.{Fixup}
use Rattle.macho_bytes.proofs.Orders.{EachLater, later_pairs}
use Rattle.macho_promise.specs.Promise.{IsLaidOut}
use Rattle.macho_contents.specs.Chaining.{CanBeChained}
use Rattle.macho_contents.specs.ChainingLaws.{word_ranges, BytesOutsideStay}
use Rattle.macho_contents.specs.Filled.{IsSectionPart, IsStubPart}
use Rattle.macho_placed_laws.specs.Parts.{IsMadeOf, part_now}
use Rattle.macho_placed_laws.specs.Ranges.{file_ranges, EndsInFile, RangesAreApart, RangesEnd}
use Rattle.macho_placed_laws.proofs.Parts.{all_more, made_again}
use Rattle.macho_promise_laws.specs.Written.{AreContents, content_ranges}
use Rattle.macho_promise_laws.proofs.Pieces.{zero_part, all_zero, later_front}
use Rattle.macho_promise_laws.proofs.Exactly.{Fills, FillRanges, filling_lie, fill_append, parts_fill, parts_all, outside_ranges}
use Rattle.macho_bytes.proofs.Members.{all_left, all_right}

-- what the steps rest on
pub record Grounds (l : Link) (counts : Counts) (p : Placed) (n : ℕ) : Type 0 where
  pub placed : IsPlaced l counts p
  pub laid_out : IsLaidOut l counts p
  pub can : CanBeChained l counts p
  pub size : n ≡ p.linkedit.signature.end
  pub apart : RangesAreApart
  pub ends : RangesEnd
  pub outside : BytesOutsideStay

-- ranges of sections, of slots, of stubs
abbrev pub section_ranges : Link → Placed → List Span
section_ranges l p = map (λ q. in_file p (section_span l q)) (filled_sections l p)

abbrev pub slot_ranges : Placed → List Span
slot_ranges p = map (λ s. in_file p (slot_span s)) p.slots

abbrev pub stub_ranges : Placed → List Span
stub_ranges p = map (λ s. in_file p (stub_span s)) p.stubs

-- the parts that fill them
abbrev pub filled_parts : {l : Link} {p : Placed} {run : List Fixup} {n : ℕ} {now : List ℕ} → AreContents l p run n now → List Part
filled_parts {p = p} c = (c.filled.sections.parts ++ map zero_part (slot_ranges p)) ++ c.filled.stubs.parts

section_fills : (l : Link) (p : Placed) (n : ℕ) (q : PlacedSection) (part : Part) → IsSectionPart l p n q part
    → Fills part (in_file p (section_span l q))
section_fills l p n q part is = by (length part.text == 0) refl
  where
    by : (z : Bool) → (length part.text == 0) ≡ z → Fills part (in_file p (section_span l q))
    by true e = let none = eqb-true (length part.text) 0 e in inl (none, omega (arith, none, is.filled.long))
    by false e = let some : 1 ≤ length part.text = grind (arith, nat_tests) in inr (is.place some, is.filled.long)

stub_fills : (p : Placed) (n : ℕ) (s : Stub) (part : Part) → IsStubPart p n s part → Fills part (in_file p (stub_span s))
stub_fills p n s part is = inr (is.place, is.set.long)

zeros_fill : (spans : List Span) → FillRanges (map zero_part spans) spans
zeros_fill [] = tt
zeros_fill (s ∷ spans) = (inr (refl, length-replicate {A = ℕ} s.size 0), zeros_fill spans)

pub sections_fill : (l : Link) (p : Placed) (run : List Fixup) (n : ℕ) (now : List ℕ) (c : AreContents l p run n now)
    → FillRanges (c.filled.sections.parts ++ map zero_part (slot_ranges p)) (section_ranges l p ++ slot_ranges p)
sections_fill l p run n now c =
    fill_append c.filled.sections.parts (map zero_part (slot_ranges p)) (section_ranges l p) (slot_ranges p)
    (parts_fill (IsSectionPart l p (length (zeros n))) (λ q. in_file p (section_span l q)) (filled_sections l p) c.filled.sections.parts
    c.filled.sections.each (section_fills l p (length (zeros n))))
    (zeros_fill (slot_ranges p))

-- THE parts fill the ranges of contents
pub contents_fill : (l : Link) (p : Placed) (run : List Fixup) (n : ℕ) (now : List ℕ) (c : AreContents l p run n now)
    → FillRanges (filled_parts c) (content_ranges l p)
unfolding content_ranges
contents_fill l p run n now c =
    fill_append (c.filled.sections.parts ++ map zero_part (slot_ranges p)) c.filled.stubs.parts (section_ranges l p ++ slot_ranges p)
    (stub_ranges p)
    (sections_fill l p run n now c)
    (parts_fill (IsStubPart p (length c.filled.between)) (λ s. in_file p (stub_span s)) p.stubs c.filled.stubs.parts c.filled.stubs.each
    (stub_fills p (length c.filled.between)))

-- the ranges of a placed link, apart from each other and in the file
pub all_ranges : (l : Link) (counts : Counts) (p : Placed) (n : ℕ) → Grounds l counts p n → EachLater AreApart (file_ranges l counts p)
all_ranges l counts p n g = later_pairs AreApart (file_ranges l counts p) (g.apart l counts p g.placed g.laid_out)

contents_apart : (l : Link) (counts : Counts) (p : Placed) (n : ℕ) → Grounds l counts p n → EachLater AreApart (content_ranges l p)
unfolding content_ranges file_ranges
contents_apart l counts p n g =
    later_front ((section_ranges l p ++ slot_ranges p) ++ stub_ranges p) _ (later_front _ _ (all_ranges l counts p n g))

-- slots aren't empty, so they end in the file
slots_end : (l : Link) (counts : Counts) (p : Placed) (n : ℕ) → Grounds l counts p n → All (λ s. s.start + s.size ≤ n) (slot_ranges p)
unfolding file_ranges
slots_end l counts p n g =
    low p.slots (all_right (EndsInFile p) (section_ranges l p) (slot_ranges p)
    (all_left (EndsInFile p) (section_ranges l p ++ slot_ranges p) (stub_ranges p)
    (all_left (EndsInFile p) ((section_ranges l p ++ slot_ranges p) ++ stub_ranges p) _
    (all_left (EndsInFile p) _ _ (g.ends l counts p g.placed g.laid_out)))))
  where
    low : (slots : List Slot) → All (EndsInFile p) (map (λ s. in_file p (slot_span s)) slots)
        → All (λ s. s.start + s.size ≤ n) (map (λ s. in_file p (slot_span s)) slots)
    low [] each = All-nil (λ s. s.start + s.size ≤ n)
    low (s ∷ slots) each =
        All-cons (λ r. r.start + r.size ≤ n) (in_file p (slot_span s)) (map (λ r. in_file p (slot_span r)) slots)
        (here (each 0 (in_file p (slot_span s)) (omega arith)))
        (low slots (λ k d lt. each (suc k) d (omega arith)))
      where
        here : EndsInFile p (in_file p (slot_span s)) → offset_in_file p s.address + POINTER_SIZE ≤ n
        here (inl none) = absurd (omega (arith, none))
        here (inr inside) = omega (arith, inside, g.size)

-- zeros are made of nothing
nothing_made : (n : ℕ) → IsMadeOf n [] (zeros n)
nothing_made n = record { size = length-replicate {A = ℕ} n 0; each = All-nil (Stands (zeros n)); rest = λ i outside. zeros_at n i }
  where
    zeros_at : (k i : ℕ) → slice_index (zeros k) i ≡ 0
    zeros_at k i = elim (cases_lt i k) [
      | inl lt ↦ get_or-replicate k i 0 0 lt
      | inr le ↦ get_or_past (zeros k) i 0 (omega (arith, le, length-replicate {A = ℕ} k 0))
    ]

-- sections, then zeros for slots, then stubs
sections_made : (l : Link) (counts : Counts) (p : Placed) (run : List Fixup) (n : ℕ) (now : List ℕ) → Grounds l counts p n
    → (c : AreContents l p run n now) → IsMadeOf n (c.filled.sections.parts ++ map zero_part (slot_ranges p)) c.filled.between
unfolding content_ranges
sections_made l counts p run n now g c =
    let apart = later_front (section_ranges l p ++ slot_ranges p) (stub_ranges p) (contents_apart l counts p n g) in
    let long = length-replicate {A = ℕ} n 0 in
    let fill = parts_fill (IsSectionPart l p (length (zeros n))) (λ q. in_file p (section_span l q)) (filled_sections l p)
    c.filled.sections.parts
    c.filled.sections.each (section_fills l p (length (zeros n))) in
    let end : All (λ (q : Part). end_of q ≤ n) c.filled.sections.parts =
    parts_all (IsSectionPart l p (length (zeros n))) (λ q. end_of q ≤ n) (filled_sections l p) c.filled.sections.parts
    c.filled.sections.each
    (λ q part is. omega (arith, is.ends, long)) in
    let lie = filling_lie c.filled.sections.parts (section_ranges l p) fill in
    let made = all_more n [] c.filled.sections.parts [] (section_ranges l p) (zeros n) (nothing_made n) tt
    (later_front (section_ranges l p) (slot_ranges p) apart) lie end in
    all_zero n c.filled.sections.parts (section_ranges l p) (slot_ranges p) c.filled.between
    (subst (IsMadeOf n c.filled.sections.parts) (sym c.filled.sections.same) made) lie apart (slots_end l counts p n g)

pub contents_made : (l : Link) (counts : Counts) (p : Placed) (run : List Fixup) (n : ℕ) (now : List ℕ) → Grounds l counts p n
    → (c : AreContents l p run n now) → IsMadeOf n (filled_parts c) c.before
unfolding content_ranges
contents_made l counts p run n now g c =
    let long = length-replicate {A = ℕ} n 0 in
    let fill = parts_fill (IsStubPart p (length c.filled.between)) (λ s. in_file p (stub_span s)) p.stubs c.filled.stubs.parts
    c.filled.stubs.each
    (stub_fills p (length c.filled.between)) in
    let end : All (λ (q : Part). end_of q ≤ n) c.filled.stubs.parts =
    parts_all (IsStubPart p (length c.filled.between)) (λ q. end_of q ≤ n) p.stubs c.filled.stubs.parts c.filled.stubs.each
    (λ s part is. omega (arith, is.ends, c.filled.long, long)) in
    subst (IsMadeOf n (filled_parts c)) (sym c.filled.stubs.same)
    (all_more n (c.filled.sections.parts ++ map zero_part (slot_ranges p)) c.filled.stubs.parts (section_ranges l p ++ slot_ranges p)
    (stub_ranges p)
    c.filled.between (sections_made l counts p run n now g c)
    (filling_lie _ _ (sections_fill l p run n now c))
    (contents_apart l counts p n g) (filling_lie c.filled.stubs.parts (stub_ranges p) fill) end)

-- THE contents, once the words are written
pub words_made : (l : Link) (counts : Counts) (p : Placed) (run : List Fixup) (n : ℕ) (now : List ℕ) → Grounds l counts p n
    → (c : AreContents l p run n now) → IsMadeOf n (map (part_now now) (filled_parts c)) now
unfolding word_ranges
words_made l counts p run n now g c =
    let made = contents_made l counts p run n now g c in
    made_again n (filled_parts c) c.before now made (c.chained.written.written.size ∙ made.size)
    (λ i out. g.outside l counts p run c.before now i g.can c.chained.written
    (outside_ranges i (c.filled.sections.parts ++ map zero_part (slot_ranges p)) (section_ranges l p ++ slot_ranges p)
    (sections_fill l p run n now c) (all_left (IsOutside i) _ c.filled.stubs.parts out)))
