-- The placement relation holds of the smallest image's placement, and each of its parts is broken alone by a change.
--
-- The section stands behind the 312 bytes of header and commands, at 0x100000138; all other parts are empty. Each part
-- of the relation is shown of every placement of this shape as far as it asks something of the shape's numbers; so a
-- change of these numbers breaks the part that asks, and keeps the others by the same lemmas.
use Rattle.std.proofs.Common.{◌≡◌, ℕ, zero, suc, ◌+◌, ◌%◌, ◌≤◌, ◌⊎◌, ◌==◌, nat_le, ◌^◌, ◌&&◌, ◌||◌, not, Bool, false, ◌≢◌, List, [], ◌∷◌, length, get_or, map, refl, sym, ap, ◌∙◌, arith, inl, inr, None, Some, All, true}
use Rattle.std.specs.Prelude.{Option, is_some, AllPairs}
use Rattle.std.specs.List.{AllByRecursion}
use Rattle.std.proofs.lemmas.Bool.{leb-true, le-leb}
use Rattle.std.proofs.lemmas.List.Elements.{All-nil, All-cons, All-from_recursion, All-contains, All-weaker}
use Rattle.std.proofs.lemmas.List.Kept.{AllPairs-cons}
use Rattle.macho_records.specs.Sections.{is_zerofill}
use Rattle.macho_model.specs.declared.placed.Range64.{Range64}
use Rattle.macho_model.specs.declared.placed.PlacedSegment.{PlacedSegment}
use Rattle.macho_model.specs.declared.placed.PlacedSection.{PlacedSection}
use Rattle.macho_model.specs.Links.{SectionId, header_at, placed_exponent}
use Rattle.macho_model.specs.Segments.{TEXT, base_of_link, segment_rank}
use Rattle.macho_model.specs.WrittenSum.{written_sum_of}
use Rattle.macho_model.specs.Placement.{Placed, IsWholeList, IsPaged, Follows, is_segment_named, template_sections, IsPlaced, id_of, linkedit_ranges, pieces_with, AreApart as ArePiecesApart, IsInSegment as ArePiecesIn, TemplateHolds as PieceTemplate}
use Rattle.macho_model.specs.Zeros.{Span}
use Rattle.macho_model.specs.Spans.{AreApart, spans_with, IsInOrder, TextBegins, section_span, head_span, range_span, linkedit_span}
use Rattle.macho_model.specs.steps.Parts.{SectionLies, TableLies, IsAligned, IsInSegment, TemplateHolds, LiesIn}
use Rattle.macho_model.specs.Lists.{EachNext}
use Rattle.macho_model_checks.proofs.Examples.{name16}
use Rattle.macho_model_checks.proofs.ExampleLinks.{section}
use Rattle.macho_model_checks.proofs.ExamplePlacement.{link_a, counts_a, nothing, pagezero_to, text_from, section_a, placed_with, placed_a}
use Rattle.macho_model_checks.proofs.FactsA.{section_of_a, carried_a, exponent_a, commons_a, slots_a, stubs_a, sum_a}
use Rattle.macho_model.proofs.Parts.{IsEven, even_parts, even_pieces, parts_in, pieces_in, apart_parts, apart_pieces, template_pieces}
use Rattle.macho_bytes.proofs.Bools.{true_or_false, and_left, and_right, and_both, either, or_first, or_second, is_equal, equal_is, same_number, other_number}

-- The parts of the relation.
pub data PlacementPart : Type 0 where
  Base : PlacementPart
  WholeList : PlacementPart
  Aligned : PlacementPart
  InSegment : PlacementPart
  NonOverlapping : PlacementPart
  InOrder : PlacementPart
  Template : PlacementPart
  WithinSum : PlacementPart

abbrev pub Part : Placed → PlacementPart → Type 0
Part p Base = p.base ≡ base_of_link link_a
Part p WholeList = IsWholeList link_a p
Part p Aligned = All IsEven (pieces_with link_a counts_a p p.sections)
Part p InSegment = ArePiecesIn link_a p
Part p NonOverlapping = AllPairs ArePiecesApart (pieces_with link_a counts_a p p.sections)
Part p InOrder = IsInOrder link_a p
Part p Template = PieceTemplate link_a counts_a p p.template
Part p WithinSum = All (λ (s : PlacedSegment). s.address + s.size ≤ p.base + written_sum_of link_a counts_a) p.segments

pub placed_by_parts : (p : Placed) → ((part : PlacementPart) → Part p part) → IsPlaced link_a counts_a p
placed_by_parts p h = record {
  base = h Base;
  whole_list = h WholeList;
  aligned = h Aligned;
  in_segment = h InSegment;
  apart = h NonOverlapping;
  paged = (h InOrder).paged;
  follow = (h InOrder).follow;
  begins = (h InOrder).begins;
  template = h Template;
  within_sum = h WithinSum;
}

-- what a part asks of the numbers of this shape
abbrev pub asks : ℕ → ℕ → ℕ → ℕ → Option Range64 → PlacementPart → Bool
asks base start address size template Base = base == 0x100000000
asks base start address size template WholeList = true
asks base start address size template Aligned = address % 4 == 0
asks base start address size template InSegment = nat_le start address && nat_le (address + 8) (start + 0x4000)
asks base start address size template NonOverlapping = nat_le (base + 312) address || nat_le (address + 8) base
asks base start address size template InOrder = (size % 0x4000 == 0) && (nat_le 0x4000 size && (start == 0x100000000))
asks base start address size template Template = not (is_some template)
asks base start address size template WithinSum = nat_le (start + size) (base + 66806)

module _ (base start address size : ℕ) (template : Option Range64) where
  -- the lists are whole
  whole : IsWholeList link_a (placed_with base start address size template)
  whole = record {
    sections = sym carried_a;
    commons = rw commons_a refl;
    slots = sym slots_a;
    stubs = sym stubs_a;
    stub_slots = λ k d lt. absurd (omega (arith, lt));
  }

  aligned : address % 4 ≡ 0 → IsAligned link_a (placed_with base start address size template)
  aligned four = record {
    sections = All-cons (λ (q : PlacedSection). q.address % 2 ^ placed_exponent link_a (id_of q) ≡ 0) (section_a address) []
        (rw exponent_a four) (All-nil (λ (q : PlacedSection). q.address % 2 ^ placed_exponent link_a (id_of q) ≡ 0));
    commons = λ k d lt. absurd (omega (arith, lt));
    slots = λ k d lt. absurd (omega (arith, lt));
    stubs = λ k d lt. absurd (omega (arith, lt));
  }

  lies : start ≤ address → address + 8 ≤ start + 0x4000 → SectionLies link_a (placed_with base start address size template)
      (section_a address)
  unfolding name16
  lies from to = rw section_of_a (text_from start size, (omega arith, refl), refl, record { from = from; to = to })

  in_segment : start ≤ address → address + 8 ≤ start + 0x4000 → IsInSegment link_a (placed_with base start address size template)
  in_segment from to = record {
    sections = All-cons (SectionLies link_a (placed_with base start address size template)) (section_a address) [] (lies from to)
        (All-nil (SectionLies link_a (placed_with base start address size template)));
    commons = λ k d lt. absurd (omega (arith, lt));
    slots = λ k d lt. absurd (omega (arith, lt));
    stubs = λ k d lt. absurd (omega (arith, lt));
    init_offsets = (omega arith, inl refl);
    unwind = (omega arith, inl refl);
    linkedit = All-from_recursion (TableLies (placed_with base start address size template))
        (linkedit_ranges (placed_with base start address size template))
        (inl refl, (inl refl, (inl refl, (inl refl, (inl refl, tt)))));
  }

  -- the empty ranges are apart from everything
  empties : List Span
  empties = range_span nothing ∷ range_span nothing ∷ map (linkedit_span (placed_with base start address size template))
      (linkedit_ranges (placed_with base start address size template))

  each_is_empty : All (λ (e : Span). e.size ≡ 0) empties
  unfolding empties
  each_is_empty = All-from_recursion (λ (e : Span). e.size ≡ 0) empties (refl, (refl, (refl, (refl, (refl, (refl, (refl, tt)))))))

  apart_from_empties : (x : Span) → All (AreApart x) empties
  apart_from_empties x = All-weaker (λ (e : Span). e.size ≡ 0) (AreApart x) (λ e none. inr (inl none)) empties each_is_empty

  empties_apart : AllPairs AreApart empties
  empties_apart i j d lt within = inl (each_is_empty i d (omega arith))

  apart : AreApart (head_span counts_a (placed_with base start address size template)) (section_span link_a (section_a address))
      → AllPairs AreApart (spans_with link_a counts_a (placed_with base start address size template)
      (placed_with base start address size template).sections)
  unfolding spans_with empties
  apart beside =
      AllPairs-cons AreApart (head_span counts_a (placed_with base start address size template))
      (section_span link_a (section_a address) ∷ empties)
      (All-cons (AreApart (head_span counts_a (placed_with base start address size template))) (section_span link_a (section_a address))
      empties beside
      (apart_from_empties (head_span counts_a (placed_with base start address size template))))
      (AllPairs-cons AreApart (section_span link_a (section_a address)) empties (apart_from_empties
      (section_span link_a (section_a address))) empties_apart)

  beside : (base + 312 ≤ address) ⊎ (address + 8 ≤ base) → AreApart (head_span counts_a (placed_with base start address size template))
      (section_span link_a (section_a address))
  beside h = rw section_of_a (inr (inr h))

  follows : Follows link_a (pagezero_to start) (text_from start size)
  unfolding segment_rank name16
  follows = record { rank = omega arith; address = omega arith; file_offset = refl }

  each_follows : EachNext (Follows link_a) (pagezero_to start ∷ text_from start size ∷ [])
  each_follows zero s t (before, at_s) (within, at_t) = rw (← at_s, ← at_t) follows
  each_follows (suc k) s t before (within, at_t) = absurd (omega (arith, within))

  begins : start ≡ 0x100000000 → TextBegins link_a (pagezero_to start ∷ text_from start size ∷ [])
  unfolding name16
  begins at_base = (text_from start size, (1, omega arith, refl), refl, at_base)

  in_order : size % 0x4000 ≡ 0 → 0x4000 ≤ size → start ≡ 0x100000000 → IsInOrder link_a (placed_with base start address size template)
  in_order paged long at_base = record {
    paged = All-from_recursion IsPaged (pagezero_to start ∷ text_from start size ∷ []) (
      record { address = refl; size = rw at_base refl; file_offset = refl; file_size = omega arith },
      (record { address = rw at_base refl; size = paged; file_offset = refl; file_size = long }, tt),
    );
    follow = each_follows;
    begins = begins at_base;
  }

  no_template : template ≡ None → TemplateHolds link_a counts_a (placed_with base start address size template) template
  unfolding name16
  no_template is_none = rw is_none (rw section_of_a refl)

-- a template is told
none_is : (t : Option Range64) → not (is_some t) ≡ true → t ≡ None
none_is None h = refl
none_is (Some r) h = absurd (true_or_false false h refl)

is_none : (t : Option Range64) → t ≡ None → not (is_some t) ≡ true
is_none t h = rw h refl

-- What a part asks is enough.
pub part_holds : (base start address size : ℕ) (template : Option Range64) (part : PlacementPart)
    → asks base start address size template part ≡ true
    → Part (placed_with base start address size template) part
part_holds base start address size template Base h = is_equal base 0x100000000 h
part_holds base start address size template WholeList h = whole base start address size template
part_holds base start address size template Aligned h =
    even_pieces link_a counts_a (placed_with base start address size template)
    (aligned base start address size template (is_equal (address % 4) 0 h))
part_holds base start address size template InSegment h =
    pieces_in link_a counts_a (placed_with base start address size template)
    (in_segment base start address size template (leb-true start address (and_left (nat_le start address)
    (nat_le (address + 8) (start + 0x4000)) h))
    (leb-true (address + 8) (start + 0x4000) (and_right (nat_le start address) (nat_le (address + 8) (start + 0x4000)) h)))
part_holds base start address size template NonOverlapping h =
    apart_pieces link_a counts_a (placed_with base start address size template) (placed_with base start address size template).sections
    (apart base start address size template (beside base start address size template
    (elim (either (nat_le (base + 312) address) (nat_le (address + 8) base) h) [
      | inl before ↦ inl (leb-true (base + 312) address before)
      | inr behind ↦ inr (leb-true (address + 8) base behind)
    ])))
part_holds base start address size template InOrder h =
    let rest = and_right (size % 0x4000 == 0) (nat_le 0x4000 size && (start == 0x100000000)) h in
    in_order base start address size template (is_equal (size % 0x4000) 0 (and_left (size % 0x4000 == 0)
    (nat_le 0x4000 size && (start == 0x100000000)) h))
    (leb-true 0x4000 size (and_left (nat_le 0x4000 size) (start == 0x100000000) rest))
    (is_equal start 0x100000000 (and_right (nat_le 0x4000 size) (start == 0x100000000) rest))
part_holds base start address size template Template h =
    template_pieces link_a counts_a (placed_with base start address size template) template
    (no_template base start address size template (none_is template h))
part_holds base start address size template WithinSum h =
    let fits = leb-true (start + size) (base + 66806) h in
    rw sum_a (All-from_recursion (λ (s : PlacedSegment). s.address + s.size ≤ base + 66806) (pagezero_to start ∷ text_from start size ∷ [])
    (omega (arith, fits), (omega (arith, fits), tt)))

-- The placement of the smallest image meets the relation.
all_asked : (part : PlacementPart) → asks 0x100000000 0x100000000 0x100000138 0x4000 None part ≡ true
all_asked Base = refl
all_asked WholeList = refl
all_asked Aligned = refl
all_asked InSegment = refl
all_asked NonOverlapping = refl
all_asked InOrder = refl
all_asked Template = refl
all_asked WithinSum = refl

pub a_is_placed : IsPlaced link_a counts_a placed_a
a_is_placed = placed_by_parts placed_a (λ part. part_holds 0x100000000 0x100000000 0x100000138 0x4000 None part (all_asked part))

-- the section lies in `__TEXT`, so between its address and the end of its file part
inside : (start address size : ℕ) (s : PlacedSegment) → text_from start size ≡ s
    → LiesIn (not (is_zerofill (header_at link_a (section 0 0))) && not ((header_at link_a (section 0 0)).size == 0))
    (section_span link_a (section_a address)) s
    → (start ≤ address) × (address + 8 ≤ start + 0x4000)
unfolding name16
inside start address size s is lies =
    let there = rw (section_of_a, ← is) at lies in
    (there.from, there.to)

-- the first two parts are header and section
first_two : (base start address size : ℕ) (template : Option Range64)
    → AllPairs AreApart (spans_with link_a counts_a (placed_with base start address size template)
    (placed_with base start address size template).sections)
    → AreApart (head_span counts_a (placed_with base start address size template)) (section_span link_a (section_a address))
unfolding spans_with
first_two base start address size template h = h 0 1 (head_span counts_a (placed_with base start address size template)) (omega arith)
    (omega arith)

beside_needed : (base start address size : ℕ) (template : Option Range64)
    → AreApart (head_span counts_a (placed_with base start address size template)) (section_span link_a (section_a address))
    → (base + 312 ≤ address) ⊎ (address + 8 ≤ base)
beside_needed base start address size template h =
    elim (rw section_of_a at h) [
      | inl empty ↦ absurd (omega (arith, empty))
      | inr rest ↦ elim rest [ inl empty ↦ absurd (omega (arith, empty)) | inr both ↦ both ]
    ]

no_template_sections : (base start address size : ℕ) (template : Option Range64)
    → template_sections link_a (placed_with base start address size template) ≡ []
unfolding name16
no_template_sections base start address size template = rw section_of_a refl

-- of the two segments the second one has the name
begins_needed : (start size : ℕ) → TextBegins link_a (pagezero_to start ∷ text_from start size ∷ []) → start ≡ 0x100000000
unfolding name16
begins_needed start size (s, among, named, at_base) =
    All-contains (λ (x : PlacedSegment). is_segment_named TEXT x ≡ true → x.address ≡ 0x100000000 → start ≡ 0x100000000)
    (pagezero_to start ∷ text_from start size ∷ []) s
    (All-from_recursion (λ (x : PlacedSegment). is_segment_named TEXT x ≡ true → x.address ≡ 0x100000000 → start ≡ 0x100000000)
    (pagezero_to start ∷ text_from start size ∷ []) ((λ name at_it. absurd (omega (arith, at_it))), ((λ name at_it. at_it), tt)))
    among named at_base

-- What a part asks is needed.
pub part_asks : (base start address size : ℕ) (template : Option Range64) (part : PlacementPart)
    → Part (placed_with base start address size template) part
    → asks base start address size template part ≡ true
part_asks base start address size template Base h = equal_is base 0x100000000 h
part_asks base start address size template WholeList h = refl
part_asks base start address size template Aligned h =
    let first = (even_parts link_a counts_a (placed_with base start address size template) h).sections 0 (section_a address)
    (omega arith) in
    equal_is (address % 4) 0 (rw exponent_a at first)
part_asks base start address size template InSegment h =
    let lies = (parts_in link_a counts_a (placed_with base start address size template) h).sections 0 (section_a address) (omega arith) in
    let both = inside start address size lies.0 lies.1.1 lies.3 in
    and_both (nat_le start address) (nat_le (address + 8) (start + 0x4000)) (le-leb start address both.0)
    (le-leb (address + 8) (start + 0x4000) both.1)
part_asks base start address size template NonOverlapping h =
    elim (beside_needed base start address size template (first_two base start address size template
    (apart_parts link_a counts_a (placed_with base start address size template)
    (placed_with base start address size template).sections h))) [
      | inl before ↦ or_first (nat_le (base + 312) address) (nat_le (address + 8) base) (le-leb (base + 312) address before)
      | inr behind ↦ or_second (nat_le (base + 312) address) (nat_le (address + 8) base) (le-leb (address + 8) base behind)
    ]
part_asks base start address size template InOrder h =
    let second = h.paged 1 (text_from start size) (omega arith) in
    and_both (size % 0x4000 == 0) (nat_le 0x4000 size && (start == 0x100000000)) (equal_is (size % 0x4000) 0 second.size)
    (and_both (nat_le 0x4000 size) (start == 0x100000000) (le-leb 0x4000 size second.file_size)
    (equal_is start 0x100000000 (begins_needed start size h.begins)))
part_asks base start address size None Template h = refl
part_asks base start address size (Some r) Template h =
    let none = ap (λ (xs : List PlacedSection). length xs) (no_template_sections base start address size (Some r)) in
    let some = h.some in absurd (omega arith)
part_asks base start address size template WithinSum h =
    let second = h 1 (text_from start size) (omega arith) in
    le-leb (start + size) (base + 66806) (rw sum_a at second)

-- THE changes: to which numbers, and which part that breaks.
pub record PlacementChange : Type 0 where
  pub part : PlacementPart
  pub base : ℕ
  pub start : ℕ
  pub address : ℕ
  pub size : ℕ
  pub template : Option Range64

abbrev pub placement_changes : List PlacementChange
placement_changes =
    -- another base
    record { part = Base; base = 0x100000200; start = 0x100000000; address = 0x100000138; size = 0x4000; template = None }
    -- an address that is no multiple of 4
    ∷ record { part = Aligned; base = 0x100000000; start = 0x100000000; address = 0x100000139; size = 0x4000; template = None }
    -- an address whose section ends behind the segment's file part
    ∷ record { part = InSegment; base = 0x100000000; start = 0x100000000; address = 0x100003ffc; size = 0x4000; template = None }
    -- an address inside the load commands
    ∷ record { part = NonOverlapping; base = 0x100000000; start = 0x100000000; address = 0x100000134; size = 0x4000; template = None }
    -- a segment that is not made of whole pages
    ∷ record { part = InOrder; base = 0x100000000; start = 0x100000000; address = 0x100000138; size = 0x5000; template = None }
    -- `__TEXT` from 0 on, with the section 4 GiB in front of the header
    ∷ record { part = InOrder; base = 0x100000000; start = 0; address = 0x138; size = 0x100004000; template = None }
    -- a template where no section is thread-local
    ∷ record { part = Template; base = 0x100000000; start = 0x100000000; address = 0x100000138; size = 0x4000; template = Some nothing }
    -- a segment of 80 KiB, where 66,806 bytes are enough
    ∷ record { part = WithinSum; base = 0x100000000; start = 0x100000000; address = 0x100000138; size = 0x14000; template = None }
    ∷ []

abbrev pub parts : List PlacementPart
parts = Base ∷ WholeList ∷ Aligned ∷ InSegment ∷ NonOverlapping ∷ InOrder ∷ Template ∷ WithinSum ∷ []

abbrev pub part_number : PlacementPart → ℕ
part_number Base = 0
part_number WholeList = 1
part_number Aligned = 2
part_number InSegment = 3
part_number NonOverlapping = 4
part_number InOrder = 5
part_number Template = 6
part_number WithinSum = 7

at_part : (f : PlacementPart → Bool) (part : PlacementPart) → get_or (map f parts) (part_number part) false ≡ f part
at_part f Base = refl
at_part f WholeList = refl
at_part f Aligned = refl
at_part f InSegment = refl
at_part f NonOverlapping = refl
at_part f InOrder = refl
at_part f Template = refl
at_part f WithinSum = refl

abbrev pub changed_placement : PlacementChange → Placed
changed_placement c = placed_with c.base c.start c.address c.size c.template

-- what each part asks of a change
asked : AllByRecursion (λ c. map (asks c.base c.start c.address c.size c.template) parts ≡ map
    (λ q. not (part_number q == part_number c.part)) parts) placement_changes
asked = (refl, (refl, (refl, (refl, (refl, (refl, (refl, (refl, tt))))))))

pub record PartAlone (p : Placed) (part : PlacementPart) : Type 0 where
  pub broken : Part p part → ⊥
  pub others : (other : PlacementPart) → part_number other ≢ part_number part → Part p other

part_alone : (c : PlacementChange) → map (asks c.base c.start c.address c.size c.template) parts ≡ map
    (λ q. not (part_number q == part_number c.part)) parts
    → PartAlone (changed_placement c) c.part
part_alone c h =
    record {
      broken = λ holds. true_or_false (asks c.base c.start c.address c.size c.template c.part)
          (part_asks c.base c.start c.address c.size c.template c.part holds)
          (answer c.part ∙ same_number (part_number c.part));
      others = λ other apart. part_holds c.base c.start c.address c.size c.template other
          (answer other ∙ other_number (part_number other) (part_number c.part) apart);
    }
  where
    answer : (q : PlacementPart) → asks c.base c.start c.address c.size c.template q ≡ not (part_number q == part_number c.part)
    answer q =
        sym (at_part (asks c.base c.start c.address c.size c.template) q) ∙ ap (λ (v : List Bool). get_or v (part_number q) false) h
        ∙ at_part (λ r. not (part_number r == part_number c.part)) q

-- Each change breaks its part of the relation, and no other one.
pub each_placement_change_breaks_its_part : All (λ c. PartAlone (changed_placement c) c.part) placement_changes
each_placement_change_breaks_its_part =
    All-weaker (λ c. map (asks c.base c.start c.address c.size c.template) parts ≡ map (λ q. not (part_number q == part_number c.part))
    parts)
    (λ c. PartAlone (changed_placement c) c.part) part_alone placement_changes
    (All-from_recursion (λ c. map (asks c.base c.start c.address c.size c.template) parts ≡ map
    (λ q. not (part_number q == part_number c.part)) parts) placement_changes asked)

-- A placement without the section lacks a thing of the link, and keeps the other parts: it has fewer things to ask of.
abbrev pub placed_without : Placed
placed_without = record placed_a { sections = [] }

section_is_missing : IsWholeList link_a placed_without → ⊥
section_is_missing whole =
    let long = ap (λ (xs : List SectionId). length xs) whole.sections in
    let one = ap (λ (xs : List SectionId). length xs) carried_a in omega arith

apart_without_section : AllPairs AreApart (spans_with link_a counts_a placed_without placed_without.sections)
unfolding spans_with empties
apart_without_section =
    AllPairs-cons AreApart (head_span counts_a placed_a) (empties 0x100000000 0x100000000 0x100000138 0x4000 None)
    (apart_from_empties 0x100000000 0x100000000 0x100000138 0x4000 None (head_span counts_a placed_a))
    (empties_apart 0x100000000 0x100000000 0x100000138 0x4000 None)

others_without : (other : PlacementPart) → part_number other ≢ part_number WholeList → Part placed_without other
others_without Base apart = refl
others_without WholeList apart = absurd (apart refl)
others_without Aligned apart = even_pieces link_a counts_a placed_without (record {
  sections = λ k d lt. absurd (omega (arith, lt));
  commons = λ k d lt. absurd (omega (arith, lt));
  slots = λ k d lt. absurd (omega (arith, lt));
  stubs = λ k d lt. absurd (omega (arith, lt));
})
others_without InSegment apart =
    let with_it = a_is_placed.in_segment in record {
      sections = λ k d lt. absurd (omega (arith, lt));
      commons = with_it.commons;
      slots = with_it.slots;
      stubs = with_it.stubs;
      ranges = with_it.ranges;
      linkedit = with_it.linkedit;
    }
others_without NonOverlapping apart = apart_pieces link_a counts_a placed_without placed_without.sections apart_without_section
others_without InOrder apart = record {
  paged = a_is_placed.paged;
  follow = a_is_placed.follow;
  begins = a_is_placed.begins;
}
others_without Template apart = refl
others_without WithinSum apart = a_is_placed.within_sum

pub whole_list_alone : PartAlone placed_without WholeList
whole_list_alone = record { broken = section_is_missing; others = others_without }
