-- Tables are as low as they may be, and ranges have the room that was counted.
--
-- The tables are one stack from the offset of `__LINKEDIT` on. A row's file part is whole pages, so its pages rounded up or down are the
-- same; the segments in which the loader writes pointers are two of the rows, in the link's words and in the plan's.
use Rattle.std.proofs.Common.{◌≡◌, ℕ, ◌+◌, ◌*◌, ◌-◌, ◌/◌, ◌%◌, ◌<◌, ◌||◌, Bool, true, false, cond, List, [], ◌∷◌, ◌++◌, map, filter, length, get_or, sum_by, All, refl, sym, ap, ◌∙◌, subst, arith}
use Rattle.std.specs.Str.{bytes_eq}
use Rattle.std.proofs.lemmas.List.{get_or-map, length-map, append-nil}
use Rattle.std.proofs.lemmas.List.Elements.{All-nil, All-cons, All-head, All-tail, filter-append}
use Rattle.std.proofs.lemmas.List.Sums.{sum_by-cons}
use Rattle.macho_bytes.specs.Numbers.{rounded_up}
use Rattle.macho_records.specs.declared.segments.SegmentName.{SegmentName}
use Rattle.macho_records.specs.Segments.{text_of}
use Rattle.macho_model.specs.declared.placed.Counts.{Counts}
use Rattle.macho_model.specs.declared.placed.Linkedit.{Linkedit}
use Rattle.macho_model.specs.declared.placed.PlacedSegment.{PlacedSegment}
use Rattle.macho_model.specs.Lists.{IsNumber, EachNext, of_first}
use Rattle.macho_model.specs.Links.{Link}
use Rattle.macho_model.specs.Segments.{DATA, DATA_CONST, SEGMENT_PAGE, may_hold_pointers, list_if}
use Rattle.macho_model.specs.Placement.{Placed, Piece}
use Rattle.macho_model.specs.Order.{table_pieces, BeginsLeast, pages_of, HaveRoom}
use Rattle.macho_stack.specs.Blocks.{StandLeast}
use Rattle.macho_stack.proofs.Multiples.{rounded-multiple}
use Rattle.macho_layout.specs.Plans.{Planning, IsPlanOf}
use Rattle.macho_layout.specs.Keys.{padded, same_segment}
use Rattle.macho_layout.specs.Names.{mapped_names}
use Rattle.macho_layout.specs.Places.{segment_pages, row_pages}
use Rattle.macho_stack.specs.Rows.{RowCells, row_segment, row_at, segments_from}
use Rattle.macho_layout.specs.Sums.{FitsLimits, base_of, head_size}
use Rattle.macho_layout.specs.Laid.{IsLaidOut, zero_page}
use Rattle.macho_layout.proofs.Named.{fields_agree}
use Rattle.macho_layout_laws.proofs.Stacks.{piece_block, stack_next}
use Rattle.macho_layout_laws.proofs.Tables.{tables_stack, pieces_from}
use Rattle.macho_layout_laws.proofs.Names.{mapped_of}
use Rattle.macho_layout_laws.proofs.Made.{init_range, unwind_range}
use Rattle.macho_layout_laws.proofs.Segments.{Chain, segments_are, last_segment, last_alone, keep, all_chain, row_names}
use Rattle.macho_model.specs.Rooms.{fixup_room, pointer_pages, signature_room}
use Rattle.macho_model.proofs.Sections.{name_in_field}

-- a sum over what a filter keeps
pub sum_kept : {X : Type 0} (f : X → ℕ) (t : X → Bool) (xs : List X) → sum_by f (filter t xs) ≡ sum_by (λ x. cond (t x) (f x) 0) xs
sum_kept f t [] = refl
sum_kept {X} f t (x ∷ xs) = first (sum_kept f t xs) (t x) ∙ sym (sum_by-cons (λ x. cond (t x) (f x) 0) x xs)
  where
    first : sum_by f (filter t xs) ≡ sum_by (λ x. cond (t x) (f x) 0) xs → (b : Bool) → sum_by f (cond b (x ∷ filter t xs) (filter t xs))
        ≡ cond b (f x) 0 + sum_by (λ x. cond (t x) (f x) 0) xs
    first rest true = omega (arith, sum_by-cons f x (filter t xs), rest)
    first rest false = omega (arith, rest)

-- sums of what is the same for each element
sum_same : {X : Type 0} (f g : X → ℕ) (xs : List X) → All (λ x. f x ≡ g x) xs → sum_by f xs ≡ sum_by g xs
sum_same f g [] h = refl
sum_same f g (x ∷ xs) h =
    omega (
      arith,
      sum_by-cons f x xs,
      sum_by-cons g x xs,
      All-head (λ y. f y ≡ g y) x xs h,
      sum_same f g xs
          (All-tail (λ y. f y ≡ g y) x xs h),
    )

-- the pages of a file part that is whole pages
whole_pages : (n : ℕ) → n % SEGMENT_PAGE ≡ 0 → (n + (SEGMENT_PAGE - 1)) / SEGMENT_PAGE ≡ n / SEGMENT_PAGE
whole_pages n whole = omega (arith, whole)

files_whole : (names : List SegmentName) (head n a o : ℕ) (rs : List RowCells) → All (λ s. s.file_size % SEGMENT_PAGE ≡ 0)
    (segments_from names head n a o rs)
files_whole names head n a o [] = All-nil (λ s. s.file_size % SEGMENT_PAGE ≡ 0)
files_whole names head n a o (r ∷ rs) =
    All-cons (λ s. s.file_size % SEGMENT_PAGE ≡ 0) (row_segment (row_at names head n a o) r)
    (segments_from names head (n + 1) (a + rounded_up SEGMENT_PAGE (r.end - a)) (o + rounded_up SEGMENT_PAGE (r.filled_end - a)) rs)
    (rounded-multiple SEGMENT_PAGE (r.filled_end - a) (omega arith))
    (files_whole names head (n + 1) (a + rounded_up SEGMENT_PAGE (r.end - a)) (o + rounded_up SEGMENT_PAGE (r.filled_end - a)) rs)

module _ (l : Link) (p : Planning) (counts : Counts) (q : Placed) (plan : IsPlanOf l p) (fits : FitsLimits p counts)
    (h : IsLaidOut p counts q) where
  -- the tables are one stack
  table_stack : StandLeast h.offset (map piece_block (table_pieces q)) q.linkedit.signature.end
  table_stack =
      let one : table_pieces q ≡ pieces_from h.offset q.linkedit
      = ap (λ (ss : List PlacedSegment). pieces_from (of_first 0 (λ (s : PlacedSegment). s.file_offset) ss) q.linkedit)
      (last_alone l p counts q plan fits h) in
      subst (λ (cs : List Piece). StandLeast h.offset (map piece_block cs) q.linkedit.signature.end) (sym one)
      (subst (λ (t : Linkedit). StandLeast h.offset (map piece_block (pieces_from h.offset t)) t.signature.end) (sym h.from_them.linkedit)
      (tables_stack counts h.offset (row_pages h.segments) (keep l p counts q plan fits h).offset))

  pub tables_least : EachNext BeginsLeast (table_pieces q)
  tables_least = stack_next h.offset (table_pieces q) q.linkedit.signature.end table_stack

  -- the pages that the loader may write pointers in
  pages_are : pointer_pages q ≡ row_pages h.segments
  pages_are =
      let t : PlacedSegment → Bool = λ s. may_hold_pointers (text_of s.name) in
      let z : List PlacedSegment = list_if p.executable (zero_page ∷ []) in
      let parts : filter t q.segments ≡ filter t h.segments
      = ap (filter t) (segments_are l p counts q plan fits h) ∙ filter-append t (z ++ h.segments)
      (last_segment l p counts q plan fits h ∷ [])
      ∙ append-nil (filter t (z ++ h.segments)) ∙ filter-append t z h.segments ∙ ap (λ (ss : List PlacedSegment). ss ++ filter t h.segments)
      (by p.executable) in
      ap (sum_by pages_of) parts ∙ sum_kept pages_of t h.segments
      ∙ sum_same (λ s. cond (may_hold_pointers (text_of s.name)) (pages_of s) 0) segment_pages h.segments each
    where
      by : (b : Bool) → filter (λ s. may_hold_pointers (text_of s.name)) (list_if b (zero_page ∷ [])) ≡ []
      by true = refl
      by false = refl

      of_name : (n : List ℕ) (s : PlacedSegment) → s.name ≡ padded n → s.file_size % SEGMENT_PAGE ≡ 0 → cond
          (may_hold_pointers (text_of s.name)) (pages_of s) 0 ≡ segment_pages s
      of_name n s is whole =
          let one : bytes_eq (text_of s.name) DATA ≡ same_segment s.name (padded DATA)
          = ap (λ (m : SegmentName). bytes_eq (text_of m) DATA) is ∙ ap (λ (m : List ℕ). bytes_eq m DATA) (name_in_field n)
          ∙ sym (ap (λ (m : SegmentName). same_segment m (padded DATA)) is ∙ fields_agree n DATA) in
          let two : bytes_eq (text_of s.name) DATA_CONST ≡ same_segment s.name (padded DATA_CONST)
          = ap (λ (m : SegmentName). bytes_eq (text_of m) DATA_CONST) is ∙ ap (λ (m : List ℕ). bytes_eq m DATA_CONST) (name_in_field n)
          ∙ sym (ap (λ (m : SegmentName). same_segment m (padded DATA_CONST)) is ∙ fields_agree n DATA_CONST) in
          ap (λ (k : ℕ). cond (may_hold_pointers (text_of s.name)) k 0) (whole_pages s.file_size whole)
          ∙ ap (λ (b : Bool). cond (b || bytes_eq (text_of s.name) DATA_CONST) (s.file_size / SEGMENT_PAGE) 0) one
          ∙ ap (λ (b : Bool). cond (same_segment s.name (padded DATA) || b) (s.file_size / SEGMENT_PAGE) 0) two

      each : All (λ s. cond (may_hold_pointers (text_of s.name)) (pages_of s) 0 ≡ segment_pages s) h.segments
      each k d low =
          let whole = subst (All (λ s. s.file_size % SEGMENT_PAGE ≡ 0)) (sym h.rows.segments_are)
          (files_whole (mapped_names p) (head_size p counts) 0 (base_of p) 0 h.rows.rows) in
          let names = row_names l p counts q plan fits h in
          let inside : k < length (mapped_of l) = omega (
            arith,
            low,
            sym (length-map h.segments (λ (s : PlacedSegment). s.name))
                ∙ ap length names ∙ length-map (mapped_of l) padded,
          ) in
          let e : (get_or h.segments k d).name ≡ padded (get_or (mapped_of l) k [])
          = sym (get_or-map (λ (s : PlacedSegment). s.name) h.segments k d d.name low) ∙ ap
          (λ (ns : List SegmentName). get_or ns k d.name) names ∙ get_or-map padded (mapped_of l) k [] d.name inside in
          of_name (get_or (mapped_of l) k []) (get_or h.segments k d) e (whole k d low)

  pub rooms : HaveRoom counts q
  rooms =
      let r : ℕ = row_pages h.segments in
      let t = h.from_them.linkedit in
      let pages = pages_are in
      record {
        initializers = (init_range l p counts q plan fits h).1;
        unwind = (unwind_range l p counts q plan fits h).1;
        fixups = ap (λ (x : Linkedit). x.fixups.end) t ∙ ap (λ (k : ℕ). h.offset + fixup_room counts k) (sym pages) ∙ ap
            (λ (k : ℕ). k + fixup_room counts (pointer_pages q)) (sym (ap (λ (x : Linkedit). x.fixups.start) t));
        trie = ap (λ (x : Linkedit). x.trie.end) t ∙ ap (λ (k : ℕ). k + counts.trie) (sym (ap (λ (x : Linkedit). x.trie.start) t));
        symbols = ap (λ (x : Linkedit). x.symtab.end) t ∙ ap (λ (k : ℕ). k + 16 * counts.symbols)
            (sym (ap (λ (x : Linkedit). x.symtab.start) t));
        strings = ap (λ (x : Linkedit). x.strtab.end) t ∙ ap (λ (k : ℕ). k + counts.strings)
            (sym (ap (λ (x : Linkedit). x.strtab.start) t));
        signature = ap (λ (x : Linkedit). x.signature.end) t ∙ ap (λ (k : ℕ). k + signature_room counts k)
            (sym (ap (λ (x : Linkedit). x.signature.start) t));
      }

  -- the first segment begins the file
  pub front_is : (s : PlacedSegment) → IsNumber q.segments 0 s → s.file_offset ≡ 0
  front_is =
      first_is q.segments (all_chain l p counts q plan fits h).0 (all_chain l p counts q plan fits h).1
      (all_chain l p counts q plan fits h).2
    where
      first_is : (ss : List PlacedSegment) (a' o' : ℕ) → Chain 0 0 ss a' o' → (s : PlacedSegment) → IsNumber ss 0 s → s.file_offset ≡ 0
      first_is [] a' o' chain s at = absurd (omega (arith, at.0))
      first_is (x ∷ ss) a' o' chain s at = ap (λ (y : PlacedSegment). y.file_offset) (sym at.1) ∙ chain.1
