-- The segments of a placement.
--
-- `__PAGEZERO` goes up to the base, the rows follow one another from there on, and the tables follow the last row. A row's address and
-- sizes
-- are whole pages, so all are. The names are those of the link, filled with zeros, so their ranks rise, and `__LINKEDIT` is the last
-- segment alone.
use Rattle.std.proofs.Common.{◌≡◌, ℕ, zero, suc, ◌+◌, ◌-◌, ◌%◌, ◌<◌, if◌then◌else◌, Bool, true, false, cond, List, [], ◌∷◌, ◌++◌, map, filter, length, get_or, drop, All, Contains, refl, sym, ap, ◌∙◌, subst, arith}
use Rattle.std.specs.Str.{bytes_eq}
use Rattle.std.proofs.lemmas.Bool.{false≢true, false_from_ne_true}
use Rattle.std.proofs.lemmas.Slice.Eq.{bytes_eq-Decides}
use Rattle.std.proofs.lemmas.List.{map-append, length-map, get_or-map, drop_all, drop_more, length_push, get_or_append_left}
use Rattle.std.proofs.lemmas.List.Elements.{All-nil, All-cons, All-head, All-tail, All-append, All-weaker, filter-append}
use Rattle.macho_bytes.specs.Numbers.{rounded_up}
use Rattle.macho_bytes.specs.Texts.{name_of}
use Rattle.macho_records.specs.declared.segments.SegmentName.{SegmentName}
use Rattle.macho_records.specs.Segments.{name_field, text_of}
use Rattle.macho_model.specs.declared.placed.Counts.{Counts}
use Rattle.macho_model.specs.declared.placed.PlacedSegment.{PlacedSegment}
use Rattle.macho_model.specs.Lists.{IsNumber, EachNext}
use Rattle.macho_model.specs.Links.{Link}
use Rattle.macho_model.specs.Segments.{PAGEZERO, LINKEDIT, SEGMENT_PAGE, PAGEZERO_SIZE, is_known_segment, other_segments, segment_names_of, segment_rank, list_if, one_if}
use Rattle.macho_model.specs.Placement.{Placed, is_segment_named, IsPaged, Follows}
use Rattle.macho_stack.specs.declared.place.Cell.{Cell}
use Rattle.macho_stack.proofs.Multiples.{rounded-multiple}
use Rattle.macho_layout.specs.Plans.{Planning, IsPlanOf}
use Rattle.macho_layout.specs.Keys.{padded}
use Rattle.macho_layout.specs.Names.{mapped_names}
use Rattle.macho_layout.specs.Places.{row_pages}
use Rattle.macho_stack.specs.Rows.{RowCells, row_segment, row_at, RowsFrom, segments_from}
use Rattle.macho_layout.specs.Sums.{base_of, head_size, FitsLimits}
use Rattle.macho_stack.specs.Tables.{tables_at}
use Rattle.macho_layout.specs.Laid.{IsLaidOut, zero_page, tables_segment}
use Rattle.macho_stack.proofs.RowSteps.{row-cost, rounded-mono}
use Rattle.macho_layout_laws.proofs.Names.{IsName, mapped_of, mapped_are, mapped_all, mapped_names_are, segment_names_are, others_unknown, names_rise, flag_names}
use Rattle.macho_bytes.proofs.Maps.{map_map, filter-none}
use Rattle.macho_model.proofs.Sections.{name_in_field}
use Rattle.macho_bytes.proofs.Rounding.{rounded-above}

-- names of rows' segments
names_from : (names : List SegmentName) (head n a o : ℕ) (rs : List RowCells) → n + length rs ≡ length names → map
    (λ (s : PlacedSegment). s.name) (segments_from names head n a o rs) ≡ drop n names
names_from names head n a o [] long = sym (drop_all n names (omega (arith, long)))
names_from names head n a o (r ∷ rs) long =
    ap (λ (ns : List SegmentName). get_or names n (padded []) ∷ ns)
    (names_from names head (n + 1) (a + rounded_up SEGMENT_PAGE (r.end - a)) (o + rounded_up SEGMENT_PAGE (r.filled_end - a)) rs
    (omega (arith, long)))
    ∙ sym (drop_more names n (padded []) (omega (arith, long)))

-- each segment stands where the one before it ends, from a place on to another
abbrev pub Chain : ℕ → ℕ → List PlacedSegment → ℕ → ℕ → Type 0
Chain a o [] a' o' = (a ≡ a') × (o ≡ o')
Chain a o (s ∷ ss) a' o' = (s.address ≡ a) × (s.file_offset ≡ o) × Chain (a + s.size) (o + s.file_size) ss a' o'

abbrev Meets : PlacedSegment → PlacedSegment → Type 0
Meets s t = (t.address ≡ s.address + s.size) × (t.file_offset ≡ s.file_offset + s.file_size)

chain_next : (a o : ℕ) (ss : List PlacedSegment) (a' o' : ℕ) → Chain a o ss a' o' → EachNext Meets ss
chain_next a o [] a' o' h k x y hx hy = absurd (omega (arith, hx.0))
chain_next a o (s ∷ []) a' o' h k x y hx hy = absurd (omega (arith, hy.0))
chain_next a o (s ∷ t ∷ ss) a' o' h zero x y hx hy =
    subst (λ (z : PlacedSegment). Meets x z) hy.1 (subst (λ (z : PlacedSegment). Meets z t) hx.1
    (omega (arith, h.0, h.2.0), omega (arith, h.1, h.2.1)))
chain_next a o (s ∷ t ∷ ss) a' o' h (suc k) x y hx hy =
    let e : suc k + 1 ≡ suc (k + 1) = omega arith in
    chain_next (a + s.size) (o + s.file_size) (t ∷ ss) a' o' h.2 k x y (omega (arith, hx.0), hx.1)
    (omega (arith, hy.0), subst (λ (i : ℕ). get_or (s ∷ t ∷ ss) i y ≡ y) e hy.1)

chain_append : (a o : ℕ) (ss : List PlacedSegment) (a1 o1 : ℕ) (ts : List PlacedSegment) (a' o' : ℕ) → Chain a o ss a1 o1
    → Chain a1 o1 ts a' o' → Chain a o (ss ++ ts) a' o'
chain_append a o [] a1 o1 ts a' o' h k = subst (λ (n : ℕ). Chain n o ts a' o') (sym h.0)
    (subst (λ (n : ℕ). Chain a1 n ts a' o') (sym h.1) k)
chain_append a o (s ∷ ss) a1 o1 ts a' o' h k = (h.0, h.1, chain_append (a + s.size) (o + s.file_size) ss a1 o1 ts a' o' h.2 k)

-- what rows' segments keep
pub record SegmentsKeep (a o : ℕ) (ss : List PlacedSegment) (a' o' : ℕ) : Type 0 where
  pub chain : Chain a o ss a' o'
  pub paged : All IsPaged ss
  pub address : a' % SEGMENT_PAGE ≡ 0
  pub offset : o' % SEGMENT_PAGE ≡ 0

page_more : (a n : ℕ) → a % SEGMENT_PAGE ≡ 0 → (a + rounded_up SEGMENT_PAGE n) % SEGMENT_PAGE ≡ 0
page_more a n h = omega (arith, h)

rows_keep : (names : List SegmentName) (cells : List Cell) (head n a o : ℕ) (rs : List RowCells) (a' o' : ℕ) → a % SEGMENT_PAGE ≡ 0
    → o % SEGMENT_PAGE ≡ 0
    → RowsFrom names cells head n a o rs a' o' → SegmentsKeep a o (segments_from names head n a o rs) a' o'
rows_keep names cells head n a o [] a' o' wa wo h = record {
  chain = h;
  paged = All-nil IsPaged;
  address = ap (λ (k : ℕ). k % SEGMENT_PAGE) (sym h.0) ∙ wa;
  offset = ap (λ (k : ℕ). k % SEGMENT_PAGE) (sym h.1) ∙ wo;
}
rows_keep names cells head n a o (r ∷ rs) a' o' wa wo h =
    let cost = row-cost cells (row_at names head n a o) r h.0 in
    let a2 : ℕ = a + rounded_up SEGMENT_PAGE (r.end - a) in
    let o2 : ℕ = o + rounded_up SEGMENT_PAGE (r.filled_end - a) in
    let rest = rows_keep names cells head (n + 1) (a + rounded_up SEGMENT_PAGE (r.end - a))
    (o + rounded_up SEGMENT_PAGE (r.filled_end - a)) rs a' o'
    (page_more a (r.end - a) wa) (page_more o (r.filled_end - a) wo) h.1 in
    record {
      chain = (refl, refl, rest.chain);
      paged = All-cons IsPaged (row_segment (row_at names head n a o) r)
          (segments_from names head (n + 1) (a + rounded_up SEGMENT_PAGE (r.end - a)) (o + rounded_up SEGMENT_PAGE (r.filled_end - a)) rs)
          (record {
            address = wa;
            size = rounded-multiple SEGMENT_PAGE (r.end - a) (omega arith);
            file_offset = wo;
            file_size = rounded-mono SEGMENT_PAGE (r.filled_end - a) (r.end - a) (omega arith) (omega (arith, cost.1));
          }) rest.paged;
      address = rest.address;
      offset = rest.offset;
    }

-- the name of each of the mapped segments isn't `__LINKEDIT`
pub mapped_not_last : (l : Link) → All (λ n. bytes_eq n LINKEDIT ≡ false) (mapped_of l)
mapped_not_last l =
    mapped_all (λ n. bytes_eq n LINKEDIT ≡ false) l refl refl refl
    (All-weaker (λ (n : List ℕ). is_known_segment n ≡ false) (λ (n : List ℕ). bytes_eq n LINKEDIT ≡ false)
    (λ n u. false_from_ne_true (bytes_eq n LINKEDIT) (λ t. false≢true (sym u ∙ ap is_known_segment ((bytes_eq-Decides n LINKEDIT).0 t))))
    (other_segments l) (others_unknown l))

module _ (l : Link) (p : Planning) (counts : Counts) (q : Placed) (plan : IsPlanOf l p) (fits : FitsLimits p counts)
    (h : IsLaidOut p counts q) where
  abbrev pub last_segment : PlacedSegment
  last_segment = tables_segment h.address h.offset (tables_at counts h.offset (row_pages h.segments))

  pub segments_are : q.segments ≡ list_if p.executable (zero_page ∷ []) ++ h.segments ++ last_segment ∷ []
  segments_are = h.from_them.segments

  -- the rows' segments have the names of the mapped segments
  pub row_names : map (λ (s : PlacedSegment). s.name) h.segments ≡ map padded (mapped_of l)
  row_names =
      ap (map (λ (s : PlacedSegment). s.name)) h.rows.segments_are ∙ names_from (mapped_names p) (head_size p counts) 0
      (base_of p) 0 h.rows.rows (omega (arith, h.rows.many)) ∙ mapped_are l p plan

  pub names_are : map (λ (s : PlacedSegment). s.name) q.segments ≡ map padded (segment_names_of l)
  names_are =
      let z : List PlacedSegment = list_if p.executable (zero_page ∷ []) in
      ap (map (λ (s : PlacedSegment). s.name)) segments_are ∙ map-append (λ (s : PlacedSegment). s.name) (z ++ h.segments)
      (last_segment ∷ [])
      ∙ ap (λ (ns : List SegmentName). ns ++ padded LINKEDIT ∷ []) (map-append (λ (s : PlacedSegment). s.name) z h.segments
      ∙ ap (λ (ns : List SegmentName). map (λ (s : PlacedSegment). s.name) z ++ ns) row_names
      ∙ ap (λ (ns : List SegmentName). ns ++ map padded (mapped_of l))
      (by p.executable ∙ ap (λ (b : Bool). map padded (list_if b (PAGEZERO ∷ []))) plan.executable))
      ∙ sym (ap (map padded) (segment_names_are l) ∙ map-append padded (list_if l.executable (PAGEZERO ∷ []) ++ mapped_of l) (LINKEDIT ∷ [])
      ∙ ap (λ (ns : List SegmentName). ns ++ padded LINKEDIT ∷ []) (map-append padded (list_if l.executable (PAGEZERO ∷ [])) (mapped_of l)))
    where
      by : (b : Bool) → map (λ (s : PlacedSegment). s.name) (list_if b (zero_page ∷ [])) ≡ map padded (list_if b (PAGEZERO ∷ []))
      by true = refl
      by false = refl

  names_whole : All IsName (segment_names_of l)
  names_whole =
      subst (All IsName) (sym (segment_names_are l))
      (All-append IsName (list_if l.executable (PAGEZERO ∷ []) ++ mapped_of l) (LINKEDIT ∷ [])
      (All-append IsName (list_if l.executable (PAGEZERO ∷ [])) (mapped_of l) (flag_names IsName l.executable PAGEZERO refl)
      (mapped_names_are l)) (flag_names IsName true LINKEDIT refl))

  pub map_whole : (ns : List (List ℕ)) → All IsName ns → map (λ n. text_of (padded n)) ns ≡ ns
  map_whole [] all = refl
  map_whole (n ∷ ns) all =
      ap (λ (m : List ℕ). m ∷ map (λ n. text_of (padded n)) ns) (name_in_field n ∙ All-head IsName n ns all) ∙ ap
      (λ (ms : List (List ℕ)). n ∷ ms) (map_whole ns (All-tail IsName n ns all))

  pub texts_are : map (λ (s : PlacedSegment). text_of s.name) q.segments ≡ segment_names_of l
  texts_are =
      sym (map_map text_of (λ (s : PlacedSegment). s.name) q.segments) ∙ ap (map text_of) names_are ∙ map_map text_of padded
      (segment_names_of l) ∙ map_whole (segment_names_of l) names_whole

  pub fields_are : map (λ (s : PlacedSegment). s.name.0) q.segments ≡ map name_field (segment_names_of l)
  fields_are =
      sym (map_map (λ (n : SegmentName). n.0) (λ (s : PlacedSegment). s.name) q.segments) ∙ ap (map (λ (n : SegmentName). n.0)) names_are
      ∙ map_map (λ (n : SegmentName). n.0) padded
      (segment_names_of l)

  base_whole : base_of p % SEGMENT_PAGE ≡ 0
  base_whole = by p.executable
    where
      by : (b : Bool) → (if b then PAGEZERO_SIZE else 0) % SEGMENT_PAGE ≡ 0
      by true = refl
      by false = refl

  pub keep : SegmentsKeep (base_of p) 0 h.segments h.address h.offset
  keep =
      subst (λ (ss : List PlacedSegment). SegmentsKeep (base_of p) 0 ss h.address h.offset) (sym h.rows.segments_are)
      (rows_keep (mapped_names p) _ (head_size p counts) 0 (base_of p) 0 h.rows.rows h.address h.offset base_whole refl h.rows.stand)

  pub all_paged : All IsPaged q.segments
  all_paged =
      let t : ℕ = (tables_at counts h.offset (row_pages h.segments)).signature.end - h.offset in
      subst (All IsPaged) (sym segments_are)
      (All-append IsPaged (list_if p.executable (zero_page ∷ []) ++ h.segments) (last_segment ∷ [])
      (All-append IsPaged (list_if p.executable (zero_page ∷ [])) h.segments (by p.executable) keep.paged)
      (All-cons IsPaged last_segment [] (record {
        address = keep.address;
        size = rounded-multiple SEGMENT_PAGE ((tables_at counts h.offset (row_pages h.segments)).signature.end - h.offset) (omega arith);
        file_offset = keep.offset;
        file_size = rounded-above SEGMENT_PAGE ((tables_at counts h.offset (row_pages h.segments)).signature.end - h.offset) (omega arith);
      }) (All-nil IsPaged)))
    where
      by : (b : Bool) → All IsPaged (list_if b (zero_page ∷ []))
      by true = All-cons IsPaged zero_page [] (record { address = refl; size = refl; file_offset = refl; file_size = omega arith })
          (All-nil IsPaged)
      by false = All-nil IsPaged

  -- all of them are one chain, from 0
  pub all_chain : (a' : ℕ) × (o' : ℕ) × Chain 0 0 q.segments a' o'
  all_chain = (
    h.address + last_segment.size,
    h.offset + last_segment.file_size,
    subst (λ (ss : List PlacedSegment). Chain 0 0 ss (h.address + last_segment.size) (h.offset + last_segment.file_size)) (sym segments_are)
        (chain_append 0 0 (list_if p.executable (zero_page ∷ []) ++ h.segments) h.address h.offset (last_segment ∷ [])
        (h.address + last_segment.size) (h.offset + last_segment.file_size)
        (chain_append 0 0 (list_if p.executable (zero_page ∷ [])) (base_of p) 0 h.segments h.address h.offset (by p.executable) keep.chain)
        (refl, refl, (refl, refl))),
  )
    where
      by : (b : Bool) → Chain 0 0 (list_if b (zero_page ∷ [])) (if b then PAGEZERO_SIZE else 0) 0
      by true = (refl, refl, (refl, refl))
      by false = (refl, refl)

  -- each follows the one before it
  pub all_follow : EachNext (Follows l) q.segments
  all_follow k x y hx hy =
      let meets = chain_next 0 0 q.segments all_chain.0 all_chain.1 all_chain.2 k x y hx hy in
      let f : PlacedSegment → List ℕ = λ s. text_of s.name in
      let long : length q.segments ≡ length (segment_names_of l) = sym (length-map q.segments f) ∙ ap length texts_are in
      let first : get_or (segment_names_of l) k (f x) ≡ f x = ap (λ (ns : List (List ℕ)). get_or ns k (f x)) (sym texts_are)
      ∙ get_or-map f q.segments k x (f x) hx.0 ∙ ap f hx.1 in
      let second : get_or (segment_names_of l) (k + 1) (f x) ≡ f y
      = ap (λ (ns : List (List ℕ)). get_or ns (k + 1) (f x)) (sym texts_are) ∙ get_or-map f q.segments (k + 1) y (f x) hy.0 ∙ ap f hy.1 in
      let rise = names_rise l k (k + 1) (f x) (omega arith) (omega (arith, hy.0, long)) in
      record {
        rank = omega (arith, rise, ap (segment_rank l) first, ap (segment_rank l) second);
        address = meets.0;
        file_offset = meets.1;
      }

  -- `__LINKEDIT` is the last one alone
  pub last_alone : filter (is_segment_named LINKEDIT) q.segments ≡ last_segment ∷ []
  last_alone =
      let z : List PlacedSegment = list_if p.executable (zero_page ∷ []) in
      ap (filter (is_segment_named LINKEDIT)) segments_are ∙ filter-append (is_segment_named LINKEDIT) (z ++ h.segments) (last_segment ∷ [])
      ∙ ap (λ (ss : List PlacedSegment). ss ++ last_segment ∷ []) (filter-none (is_segment_named LINKEDIT) (z ++ h.segments)
      (All-append (λ s. is_segment_named LINKEDIT s ≡ false) z h.segments (by p.executable) rows_other))
    where
      by : (b : Bool) → All (λ s. is_segment_named LINKEDIT s ≡ false) (list_if b (zero_page ∷ []))
      by true = All-cons (λ s. is_segment_named LINKEDIT s ≡ false) zero_page [] refl (All-nil (λ s. is_segment_named LINKEDIT s ≡ false))
      by false = All-nil (λ s. is_segment_named LINKEDIT s ≡ false)

      rows_other : All (λ s. is_segment_named LINKEDIT s ≡ false) h.segments
      rows_other k d low =
          let e : (get_or h.segments k d).name ≡ padded (get_or (mapped_of l) k [])
          = sym (get_or-map (λ (s : PlacedSegment). s.name) h.segments k d d.name low) ∙ ap
          (λ (ns : List SegmentName). get_or ns k d.name) row_names
          ∙ get_or-map padded (mapped_of l) k [] d.name (omega (
            arith,
            low,
            sym (length-map h.segments (λ (s : PlacedSegment). s.name))
                ∙ ap length row_names ∙ length-map (mapped_of l) padded,
          )) in
          let inside : k < length (mapped_of l) = omega (
            arith,
            low,
            sym (length-map h.segments (λ (s : PlacedSegment). s.name))
                ∙ ap length row_names ∙ length-map (mapped_of l) padded,
          ) in
          ap (λ (n : SegmentName). bytes_eq (text_of n) LINKEDIT) e ∙ ap (λ (n : List ℕ). bytes_eq n LINKEDIT)
          (name_in_field (get_or (mapped_of l) k []) ∙ mapped_names_are l k [] inside)
          ∙ mapped_not_last l k [] inside

  -- the segment of a mapped name
  pub row_segment_named : (k : ℕ) (d : PlacedSegment) (n : List ℕ) → k < length h.segments → get_or (mapped_of l) k n ≡ n → text_of
      (get_or h.segments k d).name ≡ n
  row_segment_named k d n low is =
      let inside : k < length (mapped_of l) = omega (
        arith,
        low,
        sym (length-map h.segments (λ (s : PlacedSegment). s.name))
            ∙ ap length row_names ∙ length-map (mapped_of l) padded,
      ) in
      let e : (get_or h.segments k d).name ≡ padded n
      = sym (get_or-map (λ (s : PlacedSegment). s.name) h.segments k d d.name low) ∙ ap
      (λ (ns : List SegmentName). get_or ns k d.name) row_names
      ∙ get_or-map padded (mapped_of l) k n d.name inside ∙ ap padded is in
      ap text_of e ∙ name_in_field n ∙ ap name_of (sym is) ∙ mapped_names_are l k n inside ∙ is

  -- its number among all
  pub numbered_segment : (k : ℕ) (s : PlacedSegment) → k < length h.segments → get_or h.segments k s ≡ s → IsNumber q.segments
      (one_if p.executable + k) s
  numbered_segment k s low is =
      subst (λ (ss : List PlacedSegment). IsNumber ss (one_if p.executable + k) s) (sym segments_are)
      (by p.executable)
    where
      by : (b : Bool) → IsNumber (list_if b (zero_page ∷ []) ++ h.segments ++ last_segment ∷ []) (one_if b + k) s
      by true =
          let e : 1 + k ≡ suc k = omega arith in
          subst (λ (i : ℕ). IsNumber (zero_page ∷ (h.segments ++ last_segment ∷ [])) i s) (sym e)
          (omega (arith, low, length_push h.segments last_segment), get_or_append_left h.segments (last_segment ∷ []) s k low ∙ is)
      by false =
          let e : 0 + k ≡ k = omega arith in
          subst (λ (i : ℕ). IsNumber (h.segments ++ last_segment ∷ []) i s) (sym e)
          (omega (arith, low, length_push h.segments last_segment), get_or_append_left h.segments (last_segment ∷ []) s k low ∙ is)

  pub contained_segment : (k : ℕ) (s : PlacedSegment) → k < length h.segments → get_or h.segments k s ≡ s → Contains q.segments s
  contained_segment k s low is = (one_if p.executable + k, (numbered_segment k s low is).0, (numbered_segment k s low is).1)
