-- All parts are apart.
--
-- The parts in order: header and commands, sections and commons, slots, stubs, the two ranges, tables. Each list is apart in itself. The
-- homes of two lists have other numbers; the head ends where cells begin, and the tables begin where cells end.
use Rattle.std.proofs.Common.{◌≡◌, ℕ, ◌+◌, ◌-◌, ◌<◌, ◌≤◌, ◌⊎◌, List, [], ◌∷◌, ◌++◌, map, length, get_or, All, AllPairs, sym, ap, subst, arith, inl, inr}
use Rattle.std.proofs.lemmas.List.Elements.{All-cons, All-append, All-map, All-weaker, All-same, All-from_recursion}
use Rattle.std.proofs.lemmas.List.Kept.{AllPairs-cons}
use Rattle.macho_model.specs.declared.placed.Counts.{Counts}
use Rattle.macho_model.specs.declared.placed.Linkedit.{Linkedit}
use Rattle.macho_model.specs.declared.placed.Range64.{Range64}
use Rattle.macho_model.specs.Links.{Link}
use Rattle.macho_model.specs.Placement.{Placed, linkedit_ranges}
use Rattle.macho_model.specs.Zeros.{Span}
use Rattle.macho_model.specs.Spans.{AreApart, section_span, common_span, slot_span, stub_span, range_span, head_span, linkedit_span, spans_with}
use Rattle.macho_layout.specs.Plans.{Planning, IsPlanOf}
use Rattle.macho_layout.specs.Places.{row_pages}
use Rattle.macho_layout.specs.Sums.{FitsLimits, base_of, head_size}
use Rattle.macho_stack.specs.Tables.{tables_at}
use Rattle.macho_layout.specs.Laid.{IsLaidOut}
use Rattle.macho_bytes.specs.Numbers.{rounded_up}
use Rattle.macho_model.specs.Segments.{SEGMENT_PAGE}
use Rattle.macho_stack.specs.Ranks.{cell_block}
use Rattle.macho_stack.proofs.StackRows.{row-rises}
use Rattle.macho_layout.specs.Names.{mapped_names}
use Rattle.macho_layout.specs.Cells.{cells_of}
use Rattle.macho_stack.specs.Rows.{RowCells, RowsFrom, cells_in_row}
use Rattle.macho_layout.proofs.TableRooms.{names_some}
use Rattle.macho_layout_laws.proofs.RowFacts.{row_stack, rows_rise}
use Rattle.macho_layout_laws.proofs.Lists.{pairs_append, all_both}
use Rattle.macho_layout_laws.proofs.Scene.{members_stand}
use Rattle.macho_layout_laws.proofs.Homes.{AtHome, Any, homes_apart, member_span, member_home, members_are, members_apart, slot_home, stub_home, init_home, unwind_home, slots_apart, stubs_apart, home_between, AboveAll, tables_above, table_span_is}
use Rattle.macho_layout_laws.proofs.Counted.{head_is}
use Rattle.macho_layout_laws.proofs.Lying.{ranges_between}
use Rattle.macho_bytes.proofs.Pairs.{pairs_map}
use Rattle.macho_bytes.proofs.Rounding.{rounded-above}

-- ranges of tables rise
ranges_rise : (counts : Counts) (offset pages : ℕ) → AllPairs (λ (r s : Range64). r.end ≤ s.start)
    ((tables_at counts offset pages).fixups ∷ (tables_at counts offset pages).trie ∷ (tables_at counts offset pages).symtab ∷
    (tables_at counts offset pages).strtab ∷ (tables_at counts offset pages).signature ∷ [])
ranges_rise counts offset pages =
    let t : Linkedit = tables_at counts offset pages in
    let R : Range64 → Range64 → Type 0 = λ r s. r.end ≤ s.start in
    let a = rounded-above 8 t.trie.end (omega arith) in
    let b = rounded-above 16 t.strtab.end (omega arith) in
    let none : AllPairs R (t.signature ∷ []) = λ i j d before within. absurd (omega arith) in
    AllPairs-cons R t.fixups (t.trie ∷ t.symtab ∷ t.strtab ∷ t.signature ∷ [])
    (All-from_recursion (R t.fixups) (t.trie ∷ t.symtab ∷ t.strtab ∷ t.signature ∷ [])
    (omega arith, (omega (arith, a), (omega (arith, a), (omega (arith, a, b), tt)))))
    (AllPairs-cons R t.trie (t.symtab ∷ t.strtab ∷ t.signature ∷ [])
    (All-from_recursion (R t.trie) (t.symtab ∷ t.strtab ∷ t.signature ∷ [])
    (omega (arith, a), (omega (arith, a), (omega (arith, a, b), tt))))
    (AllPairs-cons R t.symtab (t.strtab ∷ t.signature ∷ []) (All-from_recursion (R t.symtab) (t.strtab ∷ t.signature ∷ [])
    (omega arith, (omega (arith, b), tt)))
    (AllPairs-cons R t.strtab (t.signature ∷ []) (All-from_recursion (R t.strtab) (t.signature ∷ []) (omega (arith, b), tt)) none)))

module _ (l : Link) (p : Planning) (counts : Counts) (q : Placed) (plan : IsPlanOf l p) (fits : FitsLimits p counts)
    (h : IsLaidOut p counts q) where
  abbrev Home : ℕ → Span → Type 0
  Home n a = AtHome l p counts q plan fits h (Any l p counts q plan fits h) n a

  pub ranges_are : AllPairs (λ (r s : Range64). r.end ≤ s.start) (linkedit_ranges q)
  ranges_are =
      subst (λ (t : Linkedit). AllPairs (λ (r s : Range64). r.end ≤ s.start) (t.fixups ∷ t.trie ∷ t.symtab ∷ t.strtab ∷ t.signature ∷ []))
      (sym h.from_them.linkedit)
      (ranges_rise counts h.offset (row_pages h.segments))

  tables_apart : AllPairs AreApart (map (linkedit_span q) (linkedit_ranges q))
  tables_apart =
      pairs_map AreApart (linkedit_span q) (linkedit_ranges q)
      (λ i j d before within.
      let a : Range64 = get_or (linkedit_ranges q) i d in
      let b : Range64 = get_or (linkedit_ranges q) j d in
      let x = ranges_between l p counts q plan fits h i d (omega arith) in
      let y = ranges_between l p counts q plan fits h j d within in
      inr (inr (inl (omega (
        arith,
        ranges_are i j d before within,
        x.0,
        x.1,
        y.0,
        table_span_is l p counts q plan fits h a x.0,
        table_span_is l p counts q plan fits h b y.0,
      )))))

  -- a part with a home, by number
  abbrev LowHome : Span → Type 0
  LowHome a = (n : ℕ) × (n < length h.extents) × Home n a

  abbrev HighHome : ℕ → Span → Type 0
  HighHome n a = Home (length h.extents + n) a

  -- the head, or a part with a home
  abbrev InFront : Span → Type 0
  InFront a = (a.start + a.size ≤ base_of p + head_size p counts) ⊎ LowHome a

  front_apart : (n : ℕ) (a b : Span) → InFront a → HighHome n b → AreApart a b
  front_apart n a b (inl low) y = elim (home_between l p counts q plan fits h (Any l p counts q plan fits h) (length h.extents + n) b y) [
    | inl none ↦ inr (inl none)
    | inr between ↦ inr (inr (inl (omega (arith, low, between.0))))
  ]
  front_apart n a b (inr x) y = homes_apart l p counts q plan fits h x.0 (length h.extents + n) a b x.2 y (λ e. omega (arith, e, x.1))

  above_apart : (n : ℕ) (a b : Span) → Home n a → AboveAll l p counts q plan fits h b → AreApart a b
  above_apart n a b x y = elim (home_between l p counts q plan fits h (Any l p counts q plan fits h) n a x) [
    | inl none ↦ inl none
    | inr between ↦ inr (inr (inl (omega (arith, between.1, y))))
  ]

  head_low : base_of p + head_size p counts ≤ h.address
  head_low = by h.rows.rows (omega (arith, h.rows.many, names_some p)) h.rows.stand
    where
      by : (rs : List RowCells) → 1 ≤ length rs → RowsFrom (mapped_names p) (cells_of p counts (mapped_names p) h.extents)
          (head_size p counts) 0 (base_of p) 0 rs h.address h.offset
          → base_of p + head_size p counts ≤ h.address
      by [] some stand = absurd (omega (arith, some))
      by (r ∷ rs) some stand =
          let row = row_stack (mapped_names p) (cells_of p counts (mapped_names p) h.extents) (head_size p counts) 0
          (base_of p) 0 r stand.0 in
          let rest = rows_rise (mapped_names p) (cells_of p counts (mapped_names p) h.extents) (head_size p counts) (0 + 1)
          (base_of p + rounded_up SEGMENT_PAGE (r.end - base_of p))
          (0 + rounded_up SEGMENT_PAGE (r.filled_end - base_of p)) rs h.address h.offset stand.1 in
          omega (
            arith,
            row-rises (base_of p + head_size p counts) (map cell_block (cells_in_row r)) r.end row,
            rounded-above SEGMENT_PAGE
                (r.end - base_of p) (omega arith),
            rest.1,
          )

  front_above : (a b : Span) → InFront a → AboveAll l p counts q plan fits h b → AreApart a b
  front_above a b (inl low) y = inr (inr (inl (omega (arith, low, y, head_low))))
  front_above a b (inr x) y = above_apart x.0 a b x.2 y

  other_homes : (n m : ℕ) (a b : Span) → (n ≡ m → ⊥) → HighHome n a → HighHome m b → AreApart a b
  other_homes n m a b other x y = homes_apart l p counts q plan fits h (length h.extents + n) (length h.extents + m) a b x y
      (λ e. other (omega (arith, e)))

  all_members : All LowHome (map (member_span l p counts q plan fits h) h.members)
  all_members =
      All-map LowHome (member_span l p counts q plan fits h) h.members
      (λ k d low.
      let s = members_stand l p counts q plan fits h k d low in (
        (get_or h.members k d).member.cell,
        s.in_cell.cell,
        member_home l p counts q plan fits h (Any l p counts q plan fits h)
            (get_or h.members k d) s tt,
      ))

  -- the head and the members
  abbrev front : List Span
  front = head_span counts q ∷ map (section_span l) q.sections ++ map (common_span l) q.commons

  front_is : front ≡ head_span counts q ∷ map (member_span l p counts q plan fits h) h.members
  front_is = ap (λ (xs : List Span). head_span counts q ∷ xs) (members_are l p counts q plan fits h)

  head_front : (head_span counts q).start + (head_span counts q).size ≤ base_of p + head_size p counts
  head_front = omega (arith, h.from_them.base, head_is l p counts q plan fits h)

  front_all : All InFront front
  front_all =
      All-same InFront front (head_span counts q ∷ map (member_span l p counts q plan fits h) h.members) front_is
      (All-cons InFront (head_span counts q) (map (member_span l p counts q plan fits h) h.members) (inl head_front)
      (All-weaker LowHome InFront (λ a x. inr x) (map (member_span l p counts q plan fits h) h.members) all_members))

  front_pairs : AllPairs AreApart front
  front_pairs =
      subst (AllPairs AreApart) (sym front_is)
      (AllPairs-cons AreApart (head_span counts q) (map (member_span l p counts q plan fits h) h.members)
      (All-weaker LowHome (AreApart (head_span counts q))
      (λ b x. elim (home_between l p counts q plan fits h (Any l p counts q plan fits h) x.0 b x.2) [
        | inl none ↦ inr (inl none)
        | inr between ↦ inr (inr (inl (omega (arith, head_front, between.0))))
      ]) (map (member_span l p counts q plan fits h) h.members) all_members) (members_apart l p counts q plan fits h))

  abbrev slot_spans : List Span
  slot_spans = map slot_span q.slots

  abbrev stub_spans : List Span
  stub_spans = map stub_span q.stubs

  abbrev table_spans : List Span
  table_spans = map (linkedit_span q) (linkedit_ranges q)

  slots_home : All (HighHome 3) slot_spans
  slots_home = All-map (HighHome 3) slot_span q.slots (slot_home l p counts q plan fits h (Any l p counts q plan fits h) tt)

  stubs_home : All (HighHome 2) stub_spans
  stubs_home = All-map (HighHome 2) stub_span q.stubs (stub_home l p counts q plan fits h (Any l p counts q plan fits h) tt)

  init_at : HighHome 0 (range_span q.init_offsets)
  init_at = init_home l p counts q plan fits h (Any l p counts q plan fits h) tt

  unwind_at : HighHome 1 (range_span q.unwind)
  unwind_at = unwind_home l p counts q plan fits h (Any l p counts q plan fits h) tt

  above : All (AboveAll l p counts q plan fits h) table_spans
  above = tables_above l p counts q plan fits h

  -- the ranges and the tables behind them
  abbrev last : List Span
  last = range_span q.init_offsets ∷ range_span q.unwind ∷ table_spans

  last_pairs : AllPairs AreApart last
  last_pairs =
      AllPairs-cons AreApart (range_span q.init_offsets) (range_span q.unwind ∷ table_spans)
      (All-cons (AreApart (range_span q.init_offsets)) (range_span q.unwind) table_spans
      (other_homes 0 1 (range_span q.init_offsets) (range_span q.unwind) (λ e. omega (arith, e)) init_at unwind_at)
      (All-weaker (AboveAll l p counts q plan fits h) (AreApart (range_span q.init_offsets))
      (λ b y. above_apart (length h.extents + 0) (range_span q.init_offsets) b init_at y) table_spans above))
      (AllPairs-cons AreApart (range_span q.unwind) table_spans
      (All-weaker (AboveAll l p counts q plan fits h) (AreApart (range_span q.unwind))
      (λ b y. above_apart (length h.extents + 1) (range_span q.unwind) b unwind_at y) table_spans above) tables_apart)

  last_all : (R : Span → Type 0) → ((b : Span) → HighHome 0 b → R b) → ((b : Span) → HighHome 1 b → R b) →
      ((b : Span) → AboveAll l p counts q plan fits h b → R b) → All R last
  last_all R zero_home one_home up =
      All-cons R (range_span q.init_offsets) (range_span q.unwind ∷ table_spans) (zero_home (range_span q.init_offsets) init_at)
      (All-cons R (range_span q.unwind) table_spans (one_home (range_span q.unwind) unwind_at)
      (All-weaker (AboveAll l p counts q plan fits h) R up table_spans above))

  pub all_apart : AllPairs AreApart (spans_with l counts q q.sections)
  unfolding spans_with
  all_apart =
      let with_slots : AllPairs AreApart (front ++ slot_spans)
      = pairs_append AreApart front slot_spans front_pairs (slots_apart l p counts q plan fits h)
      (all_both InFront (HighHome 3) AreApart (front_apart 3) front slot_spans front_all slots_home) in
      let to_stubs : All (λ a. All (AreApart a) stub_spans) (front ++ slot_spans)
      = All-append (λ a. All (AreApart a) stub_spans) front slot_spans
      (all_both InFront (HighHome 2) AreApart (front_apart 2) front stub_spans front_all stubs_home)
      (all_both (HighHome 3) (HighHome 2) AreApart (λ a b x y. other_homes 3 2 a b (λ e. omega (arith, e)) x y) slot_spans stub_spans
      slots_home stubs_home) in
      let with_stubs : AllPairs AreApart (front ++ slot_spans ++ stub_spans)
      = pairs_append AreApart (front ++ slot_spans) stub_spans with_slots (stubs_apart l p counts q plan fits h) to_stubs in
      let from_front : All (λ a. All (AreApart a) last) front
      = All-weaker InFront (λ a. All (AreApart a) last) (λ a x. last_all (AreApart a) (λ b y. front_apart 0 a b x y)
      (λ b y. front_apart 1 a b x y) (λ b y. front_above a b x y)) front front_all in
      let from_slots : All (λ a. All (AreApart a) last) slot_spans
      = All-weaker (HighHome 3) (λ a. All (AreApart a) last) (λ a x. last_all (AreApart a)
      (λ b y. other_homes 3 0 a b (λ e. omega (arith, e)) x y)
      (λ b y. other_homes 3 1 a b (λ e. omega (arith, e)) x y) (λ b y. above_apart (length h.extents + 3) a b x y)) slot_spans slots_home in
      let from_stubs : All (λ a. All (AreApart a) last) stub_spans
      = All-weaker (HighHome 2) (λ a. All (AreApart a) last) (λ a x. last_all (AreApart a)
      (λ b y. other_homes 2 0 a b (λ e. omega (arith, e)) x y)
      (λ b y. other_homes 2 1 a b (λ e. omega (arith, e)) x y) (λ b y. above_apart (length h.extents + 2) a b x y)) stub_spans stubs_home in
      pairs_append AreApart (front ++ slot_spans ++ stub_spans) last with_stubs last_pairs
      (All-append (λ a. All (AreApart a) last) (front ++ slot_spans) stub_spans
      (All-append (λ a. All (AreApart a) last) front slot_spans from_front from_slots) from_stubs)
