-- The clauses of the placement relation by kinds of parts follow from those over all pieces, and these follow from them.
--
-- The list of pieces is that of ranges, with alignments. So an alignment of each piece is one of each section, common, slot and stub; what
-- has exponent 0 has no other. Pieces are apart where their ranges are.
use Rattle.std.proofs.Common.{◌≡◌, ℕ, ◌+◌, ◌%◌, ◌^◌, ◌≤◌, ◌⊎◌, Bool, true, false, List, [], ◌∷◌, ◌++◌, map, length, get_or, All, refl, sym, ap, ◌∙◌, subst, arith, inl, inr, Some, None}
use Rattle.std.specs.Prelude.{AllPairs, Option, IsPermutation}
use Rattle.std.proofs.lemmas.List.Sorted.{IsPermutation-refl}
use Rattle.std.proofs.lemmas.List.{map-append}
use Rattle.std.proofs.lemmas.List.Elements.{All-nil, All-cons, All-tail, All-append, All-map, All-weaker}
use Rattle.macho_records.specs.Segments.{text_of, name_field}
use Rattle.macho_model.specs.declared.placed.Counts.{Counts}
use Rattle.macho_model.specs.declared.placed.PlacedSegment.{PlacedSegment}
use Rattle.macho_model.specs.declared.placed.PlacedSection.{PlacedSection}
use Rattle.macho_model.specs.declared.placed.Range64.{Range64}
use Rattle.macho_model.specs.Links.{Link}
use Rattle.macho_model.specs.Segments.{TEXT, DATA_CONST, DATA, LINKEDIT, segment_names_of}
use Rattle.macho_model.specs.Placement.{Placed, Piece, section_piece, common_piece, slot_piece, stub_piece, range_piece, mapped_table, head_size, pieces_with, linkedit_ranges, AreApart as ArePiecesApart, LiesIn as PieceLies, IsInNamed, SectionLies as SectionPieceLies, IsInSegment as ArePiecesIn, TemplateHolds as PieceTemplate, IsWholeList, IsPlaced}
use Rattle.macho_model.specs.Zeros.{Span}
use Rattle.macho_model.specs.Spans.{AreApart, section_span, common_span, slot_span, stub_span, range_span, head_span, spans_with, IsInOrder, StandInOrder}
use Rattle.macho_model.specs.steps.Parts.{LiesIn, LiesInNamed, SectionLies, TableLies, RangeLies, IsAligned, IsInSegment, TemplateHolds}
use Rattle.macho_bytes.proofs.Pairs.{pairs_map, pairs_unmap}
use Rattle.macho_bytes.proofs.Members.{all_left, all_right, all_unmap}

-- equal lists are in one order
pub same_order : {X : Type 0} {xs ys : List X} → xs ≡ ys → IsPermutation xs ys
same_order {X} {xs} {ys} e = subst (IsPermutation xs) e (IsPermutation-refl xs)

-- a piece as a range
abbrev pub span : Piece → Span
span c = record { start = c.start; size = c.size }

-- an address of a piece is a multiple of its alignment
abbrev pub IsEven : Piece → Type 0
IsEven c = c.start % 2 ^ c.exponent ≡ 0

map_twice : {X : Type 0} (f : X → Piece) (g : X → Span) → ((x : X) → span (f x) ≡ g x) → (xs : List X) → map span (map f xs) ≡ map g xs
map_twice f g same [] = refl
map_twice {X} f g same (x ∷ xs) = ap (λ (s : Span). s ∷ map span (map f xs)) (same x)
    ∙ ap (λ (ss : List Span). g x ∷ ss) (map_twice f g same xs)

-- THE lists are the same
pub spans_are : (l : Link) (counts : Counts) (p : Placed) (ss : List PlacedSection)
    → map span (pieces_with l counts p ss) ≡ spans_with l counts p ss
unfolding pieces_with spans_with
spans_are l counts p ss =
    let S : List Piece = map (section_piece l) ss in
    let C : List Piece = map (common_piece l) p.commons in
    let G : List Piece = map slot_piece p.slots in
    let B : List Piece = map stub_piece p.stubs in
    let J : List Piece = range_piece 0 p.init_offsets ∷ range_piece 0 p.unwind ∷ map (mapped_table p) (linkedit_ranges p) in
    let s : map span S ≡ map (section_span l) ss = map_twice (section_piece l) (section_span l) (λ q. refl) ss in
    let c : map span C ≡ map (common_span l) p.commons = map_twice (common_piece l) (common_span l) (λ q. refl) p.commons in
    let g : map span G ≡ map slot_span p.slots = map_twice slot_piece slot_span (λ q. refl) p.slots in
    let b : map span B ≡ map stub_span p.stubs = map_twice stub_piece stub_span (λ q. refl) p.stubs in
    ap (λ (xs : List Span). head_span counts p ∷ xs)
    (map-append span (S ++ C ++ G ++ B) J ∙ ap (λ (xs : List Span). xs ++ map span J)
    (map-append span (S ++ C ++ G) B ∙ ap (λ (xs : List Span). xs ++ map span B)
    (map-append span (S ++ C) G ∙ ap (λ (xs : List Span). xs ++ map span G)
    (map-append span S C ∙ ap (λ (xs : List Span). xs ++ map span C) s ∙ ap (λ (xs : List Span). map (section_span l) ss ++ xs) c)
    ∙ ap (λ (xs : List Span). map (section_span l) ss ++ map (common_span l) p.commons ++ xs) g)
    ∙ ap (λ (xs : List Span). map (section_span l) ss ++ map (common_span l) p.commons ++ map slot_span p.slots ++ xs) b))

module _ (l : Link) (counts : Counts) (p : Placed) where
  -- alignments of the kinds
  pub even_parts : All IsEven (pieces_with l counts p p.sections) → IsAligned l p
  unfolding pieces_with
  even_parts h =
      let S : List Piece = map (section_piece l) p.sections in
      let C : List Piece = map (common_piece l) p.commons in
      let G : List Piece = map slot_piece p.slots in
      let B : List Piece = map stub_piece p.stubs in
      let J : List Piece = range_piece 0 p.init_offsets ∷ range_piece 0 p.unwind ∷ map (mapped_table p) (linkedit_ranges p) in
      let front : Piece = record { start = p.base; size = head_size counts p; exponent = 0 } in
      let four = all_left IsEven (S ++ C ++ G ++ B) J (All-tail IsEven front (S ++ C ++ G ++ B ++ J) h) in
      let three = all_left IsEven (S ++ C ++ G) B four in
      let two = all_left IsEven (S ++ C) G three in
      record {
        sections = all_unmap IsEven (section_piece l) p.sections (all_left IsEven S C two);
        commons = all_unmap IsEven (common_piece l) p.commons (all_right IsEven S C two);
        slots = all_unmap IsEven slot_piece p.slots (all_right IsEven (S ++ C) G three);
        stubs = all_unmap IsEven stub_piece p.stubs (all_right IsEven (S ++ C ++ G) B four);
      }

  pub even_pieces : IsAligned l p → All IsEven (pieces_with l counts p p.sections)
  unfolding pieces_with
  even_pieces h =
      let S : List Piece = map (section_piece l) p.sections in
      let C : List Piece = map (common_piece l) p.commons in
      let G : List Piece = map slot_piece p.slots in
      let B : List Piece = map stub_piece p.stubs in
      let T : List Piece = map (mapped_table p) (linkedit_ranges p) in
      let J : List Piece = range_piece 0 p.init_offsets ∷ range_piece 0 p.unwind ∷ T in
      let front : Piece = record { start = p.base; size = head_size counts p; exponent = 0 } in
      All-cons IsEven front (S ++ C ++ G ++ B ++ J) (one p.base)
      (All-append IsEven (S ++ C ++ G ++ B) J
      (All-append IsEven (S ++ C ++ G) B
      (All-append IsEven (S ++ C) G
      (All-append IsEven S C (All-map IsEven (section_piece l) p.sections h.sections) (All-map IsEven (common_piece l) p.commons h.commons))
      (All-map IsEven slot_piece p.slots h.slots))
      (All-map IsEven stub_piece p.stubs h.stubs))
      (All-cons IsEven (range_piece 0 p.init_offsets) (range_piece 0 p.unwind ∷ T) (one p.init_offsets.start)
      (All-cons IsEven (range_piece 0 p.unwind) T (one p.unwind.start)
      (All-map IsEven (mapped_table p) (linkedit_ranges p) (λ k d lt. one (mapped_table p (get_or (linkedit_ranges p) k d)).start)))))
    where
      one : (n : ℕ) → n % 2 ^ 0 ≡ 0
      one n = omega arith

  -- ranges that are apart
  pub apart_parts : (ss : List PlacedSection) → AllPairs ArePiecesApart (pieces_with l counts p ss)
      → AllPairs AreApart (spans_with l counts p ss)
  apart_parts ss h = subst (AllPairs AreApart) (spans_are l counts p ss) (pairs_map AreApart span (pieces_with l counts p ss) h)

  pub apart_pieces : (ss : List PlacedSection) → AllPairs AreApart (spans_with l counts p ss)
      → AllPairs ArePiecesApart (pieces_with l counts p ss)
  apart_pieces ss h = pairs_unmap AreApart span (pieces_with l counts p ss) (subst (AllPairs AreApart) (sym (spans_are l counts p ss)) h)

  -- the template
  pub template_parts : (t : Option Range64) → PieceTemplate l counts p t → TemplateHolds l counts p t
  template_parts None h = h
  template_parts (Some r) h = record {
    some = h.some;
    holds = h.holds;
    apart = subst (All (AreApart (range_span r))) (spans_are l counts p _)
        (All-map (AreApart (range_span r)) span (pieces_with l counts p _) h.apart);
  }

  pub template_pieces : (t : Option Range64) → TemplateHolds l counts p t → PieceTemplate l counts p t
  template_pieces None h = h
  template_pieces (Some r) h = record {
    some = h.some;
    holds = h.holds;
    apart = all_unmap (AreApart (range_span r)) span (pieces_with l counts p _)
        (subst (All (AreApart (range_span r))) (sym (spans_are l counts p _)) h.apart);
  }

  -- parts in their segments
  lies_of : (b : Bool) (c : Piece) (s : PlacedSegment) → PieceLies b c s → LiesIn b (span c) s
  lies_of b c s (from, to) = record { from = from; to = to }

  named_of : (name : List ℕ) (b : Bool) (c : Piece) → IsInNamed p name (PieceLies b c) → LiesInNamed p name b (span c)
  named_of name b c (s, has, named, lies) = (s, has, named, lies_of b c s lies)

  named_piece : (name : List ℕ) (b : Bool) (c : Piece) → LiesInNamed p name b (span c) → IsInNamed p name (PieceLies b c)
  named_piece name b c (s, has, named, lies) = (s, has, named, (lies.from, lies.to))

  section_of : (q : PlacedSection) → SectionPieceLies l p q → SectionLies l p q
  section_of q (s, number, named, lies) = (s, number, named, lies_of _ (section_piece l q) s lies)

  section_piece_lies : (q : PlacedSection) → SectionLies l p q → SectionPieceLies l p q
  section_piece_lies q (s, number, named, lies) = (s, number, named, (lies.from, lies.to))

  abbrev RangePieceLies : Range64 → Type 0
  RangePieceLies r = (r.start ≤ r.end) × ((r.end ≡ r.start) ⊎ IsInNamed p TEXT (PieceLies true (range_piece 0 r)))

  range_of : (r : Range64) → RangePieceLies r → RangeLies p r
  range_of r (up, inl none) = (up, inl none)
  range_of r (up, inr lies) = (up, inr (named_of TEXT true (range_piece 0 r) lies))

  range_piece_lies : (r : Range64) → RangeLies p r → RangePieceLies r
  range_piece_lies r (up, inl none) = (up, inl none)
  range_piece_lies r (up, inr lies) = (up, inr (named_piece TEXT true (range_piece 0 r) lies))

  abbrev TablePieceLies : Range64 → Type 0
  TablePieceLies r =
      (r.end ≡ r.start) ⊎ IsInNamed p LINKEDIT (λ s. (s.file_offset ≤ r.start) × (r.start ≤ r.end) × (r.end ≤ s.file_offset + s.file_size))

  table_of : (r : Range64) → TablePieceLies r → TableLies p r
  table_of r (inl none) = inl none
  table_of r (inr (s, has, named, (low, up, high))) = inr (s, has, named, low, up, high)

  table_piece_lies : (r : Range64) → TableLies p r → TablePieceLies r
  table_piece_lies r (inl none) = inl none
  table_piece_lies r (inr (s, has, named, low, up, high)) = inr (s, has, named, (low, up, high))

  pub parts_in : ArePiecesIn l p → IsInSegment l p
  parts_in h = record {
    sections = All-weaker (SectionPieceLies l p) (SectionLies l p) section_of p.sections h.sections;
    commons = λ k d lt. named_of DATA false (common_piece l (get_or p.commons k d)) (h.commons k d lt);
    slots = λ k d lt. named_of DATA_CONST true (slot_piece (get_or p.slots k d)) (h.slots k d lt);
    stubs = λ k d lt. named_of TEXT true (stub_piece (get_or p.stubs k d)) (h.stubs k d lt);
    init_offsets = range_of p.init_offsets (h.ranges 0 p.init_offsets (omega arith));
    unwind = range_of p.unwind (h.ranges 1 p.unwind (omega arith));
    linkedit = All-weaker TablePieceLies (TableLies p) table_of (linkedit_ranges p) h.linkedit;
  }

  pub pieces_in : IsInSegment l p → ArePiecesIn l p
  pieces_in h = record {
    sections = All-weaker (SectionLies l p) (SectionPieceLies l p) section_piece_lies p.sections h.sections;
    commons = λ k d lt. named_piece DATA false (common_piece l (get_or p.commons k d)) (h.commons k d lt);
    slots = λ k d lt. named_piece DATA_CONST true (slot_piece (get_or p.slots k d)) (h.slots k d lt);
    stubs = λ k d lt. named_piece TEXT true (stub_piece (get_or p.stubs k d)) (h.stubs k d lt);
    ranges = All-cons RangePieceLies p.init_offsets (p.unwind ∷ []) (range_piece_lies p.init_offsets h.init_offsets)
        (All-cons RangePieceLies p.unwind [] (range_piece_lies p.unwind h.unwind) (All-nil RangePieceLies));
    linkedit = All-weaker (TableLies p) TablePieceLies table_piece_lies (linkedit_ranges p) h.linkedit;
  }

-- the clauses of a placement
module _ {l : Link} {counts : Counts} {p : Placed} where
  pub aligned_of : IsPlaced l counts p → IsAligned l p
  aligned_of placed = even_parts l counts p placed.aligned

  pub in_segment_of : IsPlaced l counts p → IsInSegment l p
  in_segment_of placed = parts_in l counts p placed.in_segment

  pub apart_of : IsPlaced l counts p → AllPairs AreApart (spans_with l counts p p.sections)
  apart_of placed = apart_parts l counts p p.sections placed.apart

  pub template_of : IsPlaced l counts p → TemplateHolds l counts p p.template
  template_of placed = template_parts l counts p p.template placed.template

  pub in_order_of : IsPlaced l counts p → IsInOrder l p
  in_order_of placed = record { paged = placed.paged; follow = placed.follow; begins = placed.begins }

  pub order_of : IsWholeList l p → map (λ s. text_of s.name) p.segments ≡ segment_names_of l
      → map (λ s. s.name.0) p.segments ≡ map name_field (segment_names_of l) → StandInOrder l counts p
  order_of whole texts names = record { segments = texts; names = names; sections = whole.sections; commons = whole.commons }
