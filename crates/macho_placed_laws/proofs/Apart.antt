-- The ranges of the parts in the file share no byte, and end in it.
--
-- By addresses no two parts of a placement share anything. Each of those that have bytes in the file lies in the file part of a
-- segment: sections
-- with bytes, slots, stubs, what the linker makes in theirs, tables in that of `__LINKEDIT`, the head in that of `__TEXT`,
-- which begins the file. So
-- their ranges of the file are apart, in whatever order they are taken. File parts end in the file, so the ranges do.
use Rattle.std.proofs.Common.{◌≡◌, ℕ, ◌+◌, ◌-◌, ◌≤◌, inl, inr, ◌==◌, ◌&&◌, not, Bool, true, false, List, [], ◌∷◌, ◌++◌, map, get_or, refl, sym, ap, subst, ◌∙◌, arith, All, eqb-true}
use Rattle.std.specs.Prelude.{Contains, filter, AllPairs}
use Rattle.std.proofs.lemmas.List.{append-nil}
use Rattle.std.proofs.lemmas.List.Elements.{All-nil, All-cons}
use Rattle.macho_bytes.proofs.Members.{contains_filter, filter_contains, all_contains, contains_all, contains_first}
use Rattle.macho_bytes.proofs.Orders.{EachLater, later_pairs, later_append, Sub, sub_same, sub_append, sub_dropped, sub_filter, sub_all, sub_later, later_all}
use Rattle.macho_records.specs.Sections.{is_zerofill}
use Rattle.macho_model.specs.declared.placed.Counts.{Counts}
use Rattle.macho_model.specs.declared.placed.PlacedSection.{PlacedSection}
use Rattle.macho_model.specs.declared.placed.PlacedSegment.{PlacedSegment}
use Rattle.macho_model.specs.declared.placed.Range64.{Range64}
use Rattle.macho_model.specs.Links.{Link, header_at}
use Rattle.macho_model.specs.Segments.{TEXT, DATA_CONST, LINKEDIT}
use Rattle.macho_model.specs.Placement.{Placed, IsPlaced, id_of, head_size, linkedit_ranges, is_segment_named}
use Rattle.macho_model.specs.Zeros.{Span}
use Rattle.macho_model.specs.Spans.{AreApart, section_span, common_span, slot_span, stub_span, filled_sections, range_span, head_span, linkedit_span, spans_with, in_file}
use Rattle.macho_model.specs.steps.Parts.{LiesIn, LiesInNamed, SectionLies, RangeLies, TableLies}
use Rattle.macho_model.specs.Lists.{of_first}
use Rattle.macho_placed_laws.specs.Promise.{IsLaidOut}
use Rattle.macho_placed_laws.proofs.Room.{text_begins, text_holds_head, file_parts_end}
use Rattle.macho_placed_laws.specs.Ranges.{head_range, file_ranges, RangesAreApart, EndsInFile, RangesEnd}
use Rattle.macho_placed_laws.proofs.Backed.{IsBacked, backed_in, AreBacked, backed_append, backed_map, all_apart}
use Rattle.macho_model.proofs.Parts.{apart_of, in_order_of, in_segment_of}
use Rattle.macho_model.proofs.Sections.{apart_back, one_named}

-- the parts by their addresses, in the order of the ranges
abbrev memory_spans : Link → Counts → Placed → List Span
memory_spans l counts p =
    map (section_span l) (filled_sections l p) ++ map slot_span p.slots ++ map stub_span p.stubs
    ++ range_span p.init_offsets ∷ range_span p.unwind ∷ map (linkedit_span p) (linkedit_ranges p) ++ head_span counts p ∷ []

memory_apart : (l : Link) (counts : Counts) (p : Placed) → AllPairs AreApart (spans_with l counts p p.sections)
    → EachLater AreApart (memory_spans l counts p)
unfolding spans_with
memory_apart l counts p pairs =
    let S : List Span = map (section_span l) p.sections in
    let F : List Span = map (section_span l) (filled_sections l p) in
    let C : List Span = map (common_span l) p.commons in
    let G : List Span = map slot_span p.slots in
    let B : List Span = map stub_span p.stubs in
    let J : List Span = range_span p.init_offsets ∷ range_span p.unwind ∷ map (linkedit_span p) (linkedit_ranges p) in
    let later = later_pairs AreApart (spans_with l counts p p.sections) pairs in
    let filled : Sub F S = sub_filter (section_span l) (λ q. not (is_zerofill (header_at l (id_of q)))) p.sections in
    let first : Sub F (S ++ C) = subst (λ (xs : List Span). Sub xs (S ++ C)) (append-nil F) (sub_append F S [] C filled (sub_dropped C)) in
    let second : Sub (F ++ G) ((S ++ C) ++ G) = sub_append F (S ++ C) G G first (sub_same G) in
    let third : Sub ((F ++ G) ++ B) (((S ++ C) ++ G) ++ B) = sub_append (F ++ G) ((S ++ C) ++ G) B B second (sub_same B) in
    let whole : Sub (((F ++ G) ++ B) ++ J) ((((S ++ C) ++ G) ++ B) ++ J) =
    sub_append ((F ++ G) ++ B) (((S ++ C) ++ G) ++ B) J J third (sub_same J) in
    let head = sub_all (AreApart (head_span counts p)) (((F ++ G) ++ B) ++ J) ((((S ++ C) ++ G) ++ B) ++ J) whole later.0 in
    later_append AreApart (((F ++ G) ++ B) ++ J) (head_span counts p ∷ [])
    (sub_later AreApart (((F ++ G) ++ B) ++ J) ((((S ++ C) ++ G) ++ B) ++ J) whole later.1)
    (All-nil (AreApart (head_span counts p)), tt)
    (λ k d lt. All-cons (AreApart (get_or (((F ++ G) ++ B) ++ J) k d)) (head_span counts p) []
    (apart_back (head_span counts p) (get_or (((F ++ G) ++ B) ++ J) k d) (head k d lt))
    (All-nil (AreApart (get_or (((F ++ G) ++ B) ++ J) k d))))

-- a range that lies in the file part of a segment of a name is backed
named_backed : (l : Link) (counts : Counts) (p : Placed) (name : List ℕ) (span : Span) → IsPlaced l counts p → LiesInNamed p name true span
    → IsBacked p span (in_file p span)
named_backed l counts p name span placed lies = backed_in l p lies.0 span (in_order_of placed) lies.1 lies.3.from lies.3.to

-- a section with bytes
section_backed : (l : Link) (counts : Counts) (p : Placed) (q : PlacedSection) → IsPlaced l counts p → Contains (filled_sections l p) q
    → IsBacked p (section_span l q) (in_file p (section_span l q))
section_backed l counts p q placed has =
    let of = filter_contains (λ (r : PlacedSection). not (is_zerofill (header_at l (id_of r)))) p.sections q has in
    let lies : SectionLies l p q = all_contains (SectionLies l p) p.sections q (in_segment_of placed).sections of.0 in
    by ((header_at l (id_of q)).size == 0) refl of.1 lies
  where
    by : (x : Bool) → ((header_at l (id_of q)).size == 0) ≡ x → not (is_zerofill (header_at l (id_of q))) ≡ true → SectionLies l p q
        → IsBacked p (section_span l q) (in_file p (section_span l q))
    by true e filled lies = inl (eqb-true (header_at l (id_of q)).size 0 e)
    by false e filled lies =
        let test : (not (is_zerofill (header_at l (id_of q))) && not ((header_at l (id_of q)).size == 0)) ≡ true = rw (filled, e) refl in
        let inside : LiesIn true (section_span l q) lies.0 = subst (λ (b : Bool). LiesIn b (section_span l q) lies.0) test lies.3 in
        backed_in l p lies.0 (section_span l q) (in_order_of placed) (q.segment, lies.1.0, lies.1.1) inside.from inside.to

-- what the linker makes in `__TEXT`
range_backed : (l : Link) (counts : Counts) (p : Placed) (r : Range64) → IsPlaced l counts p → RangeLies p r
    → IsBacked p (range_span r) (in_file p (range_span r))
range_backed l counts p r placed (up, inl e) = inl (omega (arith, e))
range_backed l counts p r placed (up, inr lies) = named_backed l counts p TEXT (range_span r) placed lies

-- a table of `__LINKEDIT`
start_is : (p : Placed) (r : Range64) (ss : List PlacedSegment) (s : PlacedSegment) → Contains ss s
    → (x : PlacedSegment) × Contains ss x
    × (of_first r.start (λ (s : PlacedSegment). s.address + r.start - s.file_offset) ss ≡ x.address + r.start - x.file_offset)
start_is p r [] s has = absurd (omega (arith, has.1))
start_is p r (x ∷ ss) s has = (x, contains_first x ss, refl)

table_backed : (l : Link) (counts : Counts) (p : Placed) (r : Range64) → IsPlaced l counts p → TableLies p r
    → IsBacked p (linkedit_span p r) (range_span r)
table_backed l counts p r placed (inl e) = inl (omega (arith, e))
table_backed l counts p r placed (inr (s, has, named, from, up, to)) =
    let here : Contains (filter (is_segment_named LINKEDIT) p.segments) s =
    contains_filter (is_segment_named LINKEDIT) p.segments s has named in
    let x = start_is p r (filter (is_segment_named LINKEDIT) p.segments) s here in
    let of = filter_contains (is_segment_named LINKEDIT) p.segments x.0 x.1 in
    let same : x.0 ≡ s = one_named l p.segments LINKEDIT x.0 s placed.follow of.0 has of.1 named in
    let start : (linkedit_span p r).start ≡ s.address + r.start - s.file_offset =
    x.2 ∙ ap (λ (u : PlacedSegment). u.address + r.start - u.file_offset) same in
    inr (
      s,
      record {
        one = has;
        from =
            omega (arith, start, from);
        to = omega (arith, start, from, up, to);
        start = omega (arith, start, from);
        size = refl;
      },
    )

-- the head
head_backed : (l : Link) (counts : Counts) (p : Placed) → IsPlaced l counts p → IsLaidOut l counts p
    → IsBacked p (head_span counts p) (head_range counts p)
head_backed l counts p placed laid =
    let s : PlacedSegment = placed.begins.0 in
    let has : Contains p.segments s = placed.begins.1 in
    let named : is_segment_named TEXT s ≡ true = placed.begins.2 in
    let at : s.address ≡ p.base = placed.begins.3 ∙ sym placed.base in
    let front : s.file_offset ≡ 0 =
    all_contains (λ (u : PlacedSegment). is_segment_named TEXT u ≡ true → u.file_offset ≡ 0) p.segments s
    (text_begins l counts p placed.follow laid) has named in
    let holds : head_size counts p ≤ s.file_size =
    all_contains (λ (u : PlacedSegment). is_segment_named TEXT u ≡ true → head_size counts p ≤ u.file_size) p.segments s
    (text_holds_head l counts p laid) has named in
    inr (s, record { one = has; from = omega (arith, at); to = omega (arith, at, holds); start = omega (arith, at, front); size = refl })

all_backed : (l : Link) (counts : Counts) (p : Placed) → IsPlaced l counts p → IsLaidOut l counts p
    → AreBacked p (memory_spans l counts p) (file_ranges l counts p)
unfolding file_ranges
all_backed l counts p placed laid =
    let sections : AreBacked p (map (section_span l) (filled_sections l p))
    (map (λ q. in_file p (section_span l q)) (filled_sections l p)) =
    backed_map p (section_span l) (λ q. in_file p (section_span l q)) (filled_sections l p)
    (contains_all (λ q. IsBacked p (section_span l q) (in_file p (section_span l q))) (filled_sections l p)
    (λ q has. section_backed l counts p q placed has)) in
    let slots : AreBacked p (map slot_span p.slots) (map (λ s. in_file p (slot_span s)) p.slots) =
    backed_map p slot_span (λ s. in_file p (slot_span s)) p.slots
    (λ k d lt. named_backed l counts p DATA_CONST (slot_span (get_or p.slots k d)) placed ((in_segment_of placed).slots k d lt)) in
    let stubs : AreBacked p (map stub_span p.stubs) (map (λ s. in_file p (stub_span s)) p.stubs) =
    backed_map p stub_span (λ s. in_file p (stub_span s)) p.stubs
    (λ k d lt. named_backed l counts p TEXT (stub_span (get_or p.stubs k d)) placed ((in_segment_of placed).stubs k d lt)) in
    let tables : AreBacked p (map (linkedit_span p) (linkedit_ranges p)) (map range_span (linkedit_ranges p)) =
    backed_map p (linkedit_span p) range_span (linkedit_ranges p)
    (λ k d lt. table_backed l counts p (get_or (linkedit_ranges p) k d) placed ((in_segment_of placed).linkedit k d lt)) in
    let made : AreBacked p (range_span p.init_offsets ∷ range_span p.unwind ∷ map (linkedit_span p) (linkedit_ranges p))
    (in_file p (range_span p.init_offsets) ∷ in_file p (range_span p.unwind) ∷ map range_span (linkedit_ranges p)) = (
      range_backed l counts p p.init_offsets placed (in_segment_of placed).init_offsets,
      (range_backed l counts p p.unwind placed (in_segment_of placed).unwind, tables),
    ) in
    let head : AreBacked p (head_span counts p ∷ []) (head_range counts p ∷ []) = (head_backed l counts p placed laid, tt) in
    backed_append p _ _ _ _ (backed_append p _ _ _ _ (backed_append p _ _ _ _ (backed_append p _ _ _ _ sections slots) stubs) made) head

-- THE ranges are apart
pub ranges_apart : RangesAreApart
ranges_apart l counts p placed laid =
    later_all AreApart (file_ranges l counts p)
    (all_apart l p (memory_spans l counts p) (file_ranges l counts p) placed.follow (all_backed l counts p placed laid)
    (memory_apart l counts p (apart_of placed)))

-- each one ends in a file part, and these end in the file
ends : (l : Link) (counts : Counts) (p : Placed) (m f : Span) → IsPlaced l counts p → IsLaidOut l counts p → IsBacked p m f → EndsInFile p f
ends l counts p m f placed laid (inl e) = inl e
ends l counts p m f placed laid (inr (s, b)) =
    let end = all_contains (λ (u : PlacedSegment). u.file_offset + u.file_size ≤ p.linkedit.signature.end) p.segments s
    (file_parts_end l counts p placed.follow laid) b.one in
    inr (omega (arith, b.start, b.size, b.from, b.to, end))

all_end : (l : Link) (counts : Counts) (p : Placed) (memories files : List Span) → IsPlaced l counts p → IsLaidOut l counts p
    → AreBacked p memories files
    → All (EndsInFile p) files
all_end l counts p [] [] placed laid backed = All-nil (EndsInFile p)
all_end l counts p [] (f ∷ files) placed laid backed = absurd backed
all_end l counts p (m ∷ memories) [] placed laid backed = absurd backed
all_end l counts p (m ∷ memories) (f ∷ files) placed laid backed =
    All-cons (EndsInFile p) f files (ends l counts p m f placed laid backed.0) (all_end l counts p memories files placed laid backed.1)

pub ranges_end : RangesEnd
ranges_end l counts p placed laid =
    all_end l counts p (memory_spans l counts p) (file_ranges l counts p) placed laid (all_backed l counts p placed laid)
