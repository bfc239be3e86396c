-- The table of a link's run has room in the range that is kept for it.
--
-- Each word stands in a segment that may hold pointers: a slot in `__DATA_CONST`, a pointer in the segment of its section. Segments
-- share no address, so any other has no pages with chains; and those have no more than their file part has pages, for which room
-- is kept. As many entries and bytes of names are kept as the link has.
use Rattle.std.proofs.Common.{◌≡◌, ℕ, suc, ◌+◌, ◌%◌, ◌<◌, ◌≤◌, ◌⊎◌, inl, inr, ◌==◌, ◌&&◌, not, if◌then◌else◌, nat_le, nat_lt, Bool, true, false, List, [], ◌∷◌, map, length, get_or, refl, sym, ap, ◌∙◌, arith, All, leb-true, ltb-true}
use Rattle.std.specs.Prelude.{Contains, filter, sum_by}
use Rattle.std.specs.Str.{bytes_eq}
use Rattle.std.proofs.lemmas.Bool.{cases_lt, cases_Bool, and_parts, true≢false}
use Rattle.std.proofs.lemmas.List.{length-map}
use Rattle.std.proofs.lemmas.List.Elements.{All-map, Contains-get_or}
use Rattle.std.proofs.lemmas.List.Sums.{sum_by-cons}
use Rattle.std.proofs.lemmas.Slice.Eq.{bytes_eq-Decides}
use Rattle.macho_bytes.proofs.Members.{all_contains}
use Rattle.macho_records.specs.Segments.{text_of}
use Rattle.macho_model.specs.declared.placed.Counts.{Counts}
use Rattle.macho_model.specs.declared.placed.PlacedSection.{PlacedSection}
use Rattle.macho_model.specs.declared.placed.PlacedSegment.{PlacedSegment}
use Rattle.macho_model.specs.declared.placed.Slot.{Slot}
use Rattle.macho_records.specs.Sections.{is_zerofill, segment_name_of}
use Rattle.macho_model.specs.Links.{Link, header_at}
use Rattle.macho_model.specs.Fields.{Field, fields_of}
use Rattle.macho_model.specs.Segments.{DATA_CONST, PAGEZERO, may_hold_pointers, segment_names_of, SEGMENT_PAGE}
use Rattle.macho_model.specs.Placement.{Placed, IsPlaced, id_of, is_segment_named}
use Rattle.macho_model.specs.Spans.{slot_span}
use Rattle.macho_model.specs.steps.Parts.{LiesInNamed, SectionLies}
use Rattle.macho_model.specs.Order.{pages_of}
use Rattle.macho_model.specs.Values.{needs_fixup}
use Rattle.macho_fixups.specs.declared.run.Fixup.{Fixup}
use Rattle.macho_fixups.specs.Runs.{is_in}
use Rattle.macho_fixups.specs.Runs as runs
use Rattle.macho_fixups.specs.Calls.{all_pages}
use Rattle.macho_fixups.proofs.Bounds.{pages_bounded, none_no_pages}
use Rattle.macho_promise.specs.FixupsSay.{IsFixupOf, slot, pointer, fixup_segments}
use Rattle.macho_promise.specs.steps.Segments.{fixup_segment}
use Rattle.macho_placed_laws.proofs.Backed.{StandsBefore, before_or_one}
use Rattle.macho_image_laws.proofs.Apart.{placed_is_carried}
use Rattle.macho_placed_laws.proofs.Above.{segment_above}
use Rattle.macho_linkedit.specs.Runs.{IsRunOf}
use Rattle.macho_writing_laws.specs.Premises.{IsSoundlyPlaced}
use Rattle.macho_writing_laws.specs.Rooms.{PagesAreFew, RunsFitTables}
use Rattle.macho_writing_laws.proofs.Segments.{segments_rise}
use Rattle.macho_writing_laws.proofs.Pointers.{leads, pointer_wide}
use Rattle.macho_model.proofs.Parts.{in_order_of, in_segment_of}
use Rattle.macho_model.specs.Rooms.{pointer_pages}

-- the segment of a word: one that may hold pointers
pub record IsWordHome (p : Placed) (a : ℕ) (s : PlacedSegment) : Type 0 where
  pub one : Contains p.segments s
  pub may : may_hold_pointers (text_of s.name) ≡ true
  pub from : s.address ≤ a
  pub to : a + 8 ≤ s.address + s.size

named_may : (name : List ℕ) (s : PlacedSegment) → is_segment_named name s ≡ true → may_hold_pointers name ≡ true
    → may_hold_pointers (text_of s.name) ≡ true
named_may name s named may = ap may_hold_pointers ((bytes_eq-Decides (text_of s.name) name).0 named) ∙ may

pub file_below : (l : Link) (counts : Counts) (p : Placed) (s : PlacedSegment) → IsPlaced l counts p → Contains p.segments s
    → s.file_size ≤ s.size
file_below l counts p s placed has =
    all_contains (λ (u : PlacedSegment). u.file_size ≤ u.size) p.segments s (λ k d lt. (placed.paged k d lt).file_size) has

slot_home : (l : Link) (counts : Counts) (p : Placed) (s : Slot) → IsPlaced l counts p → Contains p.slots s
    → (t : PlacedSegment) × IsWordHome p s.address t
slot_home l counts p s placed has =
    let lies = all_contains (λ x. LiesInNamed p DATA_CONST true (slot_span x)) p.slots s (in_segment_of placed).slots has in
    let t : PlacedSegment = lies.0 in (
      t,
      record {
        one = lies.1;
        may = named_may DATA_CONST t lies.2 refl;
        from = lies.3.from;
        to = omega (arith, lies.3.to, file_below l counts p t placed lies.1);
      },
    )

pub in_memory : (b : Bool) (file size : ℕ) → file ≤ size → (if b then file else size) ≤ size
in_memory true file size less = less
in_memory false file size less = omega arith

pointer_home : (l : Link) (counts : Counts) (p : Placed) (q : PlacedSection) (f : Field) → IsSoundlyPlaced l counts p
    → Contains p.sections q
    → Contains (fields_of l (id_of q)) f → needs_fixup l (id_of q) f ≡ true → (t : PlacedSegment) × IsWordHome p (q.address + f.offset) t
pointer_home l counts p q f sound has field needs =
    let placed = sound.placed.placed in
    let carried = placed_is_carried l p q placed.whole_list has in
    let lies = all_contains (SectionLies l p) p.sections q (in_segment_of placed).sections has in
    let t : PlacedSegment = lies.0 in
    let one : Contains p.segments t = (q.segment, lies.1.0, lies.1.1) in
    let inside = (leads l counts p sound).inside (id_of q) f carried field in
    let wide = pointer_wide l (id_of q) f needs in
    let memory = in_memory (not (is_zerofill (header_at l (id_of q))) && not ((header_at l (id_of q)).size == 0)) t.file_size t.size
    (file_below l counts p t placed one) in (
      t,
      record {
        one = one;
        may = named_may (segment_name_of (header_at l (id_of q))) t lies.2 (sound.sound.places (id_of q) f carried field needs);
        from = omega (arith, lies.3.from);
        to = omega (arith, lies.3.to, inside, wide, memory);
      },
    )

-- THE segment of each fixup
word_home : (l : Link) (counts : Counts) (p : Placed) (f : Fixup) → IsSoundlyPlaced l counts p → IsFixupOf l p f
    → (t : PlacedSegment) × IsWordHome p f.address t
word_home l counts p _ sound (slot s has) = slot_home l counts p s sound.placed.placed has
word_home l counts p _ sound (pointer q f has field needs) = pointer_home l counts p q f sound has field needs

-- a segment that may hold no pointers has none
elsewhere : (l : Link) (counts : Counts) (p : Placed) (s : PlacedSegment) (f : Fixup) → IsSoundlyPlaced l counts p → IsFixupOf l p f
    → Contains p.segments s → may_hold_pointers (text_of s.name) ≡ false → is_in (fixup_segment s) f.address ≡ false
elsewhere l counts p s f sound of has none = by (cases_Bool (is_in (fixup_segment s) f.address))
  where
    home : (t : PlacedSegment) × IsWordHome p f.address t
    home = word_home l counts p f sound of

    small : s.file_size ≤ s.size
    small = file_below l counts p s sound.placed.placed has

    apart : s.address ≤ f.address → f.address < s.address + s.file_size → (s ≡ home.0) ⊎ StandsBefore s home.0 ⊎ StandsBefore home.0 s → ⊥
    apart from to (inl same) =
        true≢false (sym home.1.may ∙ ap (λ (u : PlacedSegment). may_hold_pointers (text_of u.name)) (sym same) ∙ none)
    apart from to (inr (inl before)) = absurd (omega (arith, before.memory, to, small, home.1.from))
    apart from to (inr (inr behind)) = absurd (omega (arith, behind.memory, from, home.1.to))

    by : (is_in (fixup_segment s) f.address ≡ true) ⊎ (is_in (fixup_segment s) f.address ≡ false)
        → is_in (fixup_segment s) f.address ≡ false
    by (inr e) = e
    by (inl e) =
        let both = and_parts (nat_le s.address f.address) (nat_lt f.address (s.address + s.file_size)) e in
        absurd (apart (leb-true s.address f.address both.0) (ltb-true f.address (s.address + s.file_size) both.1)
        (before_or_one l p.segments s home.0 sound.placed.placed.follow has home.1.one))

-- THE pages with chains: of a segment that may hold pointers no more than its file part has, of another none
some_pages : (s : PlacedSegment) (fixups : List Fixup) → s.address % SEGMENT_PAGE ≡ 0 → runs.pages_of (fixup_segment s) fixups ≤ pages_of s
some_pages s fixups paged = omega (arith, pages_bounded (fixup_segment s) fixups paged)

no_pages : (l : Link) (counts : Counts) (p : Placed) (s : PlacedSegment) (fixups : List Fixup) → IsSoundlyPlaced l counts p
    → IsRunOf l p fixups
    → Contains p.segments s → may_hold_pointers (text_of s.name) ≡ false → runs.pages_of (fixup_segment s) fixups ≡ 0
no_pages l counts p s fixups sound run has none =
    none_no_pages (fixup_segment s) fixups (λ k d lt. elsewhere l counts p s (get_or fixups k d) sound (run.each k d lt) has none)

paged_at : (l : Link) (counts : Counts) (p : Placed) (s : PlacedSegment) → IsPlaced l counts p → Contains p.segments s
    → s.address % SEGMENT_PAGE ≡ 0
paged_at l counts p s placed has =
    all_contains (λ (u : PlacedSegment). u.address % SEGMENT_PAGE ≡ 0) p.segments s (λ k d lt. (placed.paged k d lt).address) has

few_pages : (l : Link) (counts : Counts) (p : Placed) (s : PlacedSegment) (fixups : List Fixup) → IsSoundlyPlaced l counts p
    → PagesAreFew l counts p → IsRunOf l p fixups → Contains p.segments s → runs.pages_of (fixup_segment s) fixups ≤ 65535
few_pages l counts p s fixups sound few run has = elim (cases_Bool (may_hold_pointers (text_of s.name))) [
  | inr none ↦ omega (arith, no_pages l counts p s fixups sound run has none)
  | inl may ↦ elim (cases_lt 65535 (pages_of s)) [
    | inl many ↦ absurd (few (pages_of s) (s, has, may, refl, many))
    | inr less ↦ omega (arith, less, some_pages s fixups (paged_at l counts p s sound.placed.placed has))
  ]
]

pub pointers_above : (name : List ℕ) → may_hold_pointers name ≡ true → bytes_eq name PAGEZERO ≡ false
pointers_above name may = elim (cases_Bool (bytes_eq name PAGEZERO)) [
  | inr other ↦ other
  | inl zero_page ↦
      absurd (true≢false (sym may ∙ ap may_hold_pointers ((bytes_eq-Decides name PAGEZERO).0 zero_page)))
]

above : (l : Link) (counts : Counts) (p : Placed) (s : PlacedSegment) (fixups : List Fixup) → IsSoundlyPlaced l counts p
    → IsRunOf l p fixups
    → Contains p.segments s → (runs.pages_of (fixup_segment s) fixups ≡ 0) ⊎ (p.base ≤ s.address)
above l counts p s fixups sound run has = elim (cases_Bool (may_hold_pointers (text_of s.name))) [
  | inr none ↦ inl (no_pages l counts p s fixups sound run has none)
  | inl may ↦ inr
      (segment_above l p has.0 s (in_order_of sound.placed.placed) sound.placed.placed.base (has.1, has.2)
      (pointers_above (text_of s.name) may))
]

few_segments : (l : Link) (counts : Counts) (p : Placed) → IsSoundlyPlaced l counts p → length p.segments ≤ 6
few_segments l counts p sound =
    let long : length p.segments ≡ length (segment_names_of l) =
    sym (length-map p.segments (λ (s : PlacedSegment). text_of s.name)) ∙ ap length sound.placed.order.segments in
    elim (cases_lt 6 (length (segment_names_of l))) [
      | inl many ↦ absurd (sound.within.segments (length (segment_names_of l)) (refl, many))
      | inr few ↦ omega (arith, few, long)
    ]

pub runs_fit : RunsFitTables
runs_fit l counts p fixups sound few run =
    record {
      run = run.run;
      order = segments_rise l counts p sound.placed sound.within;
      count = omega (arith, few_segments l counts p sound, length-map p.segments fixup_segment);
      pages = All-map (λ s. runs.pages_of s fixups ≤ 65535) fixup_segment p.segments
          (λ k d lt. few_pages l counts p (get_or p.segments k d) fixups sound few run (Contains-get_or p.segments k d lt));
      above = All-map (λ s. (runs.pages_of s fixups ≡ 0) ⊎ (p.base ≤ s.address)) fixup_segment p.segments
          (λ k d lt. above l counts p (get_or p.segments k d) fixups sound run (Contains-get_or p.segments k d lt));
    }

-- all pages
pages_sum : (fixups : List Fixup) (ss : List PlacedSegment)
    → All (λ s. may_hold_pointers (text_of s.name) ≡ true → runs.pages_of (fixup_segment s) fixups ≤ pages_of s) ss
    → All (λ s. may_hold_pointers (text_of s.name) ≡ false → runs.pages_of (fixup_segment s) fixups ≡ 0) ss
    → all_pages fixups (map fixup_segment ss) ≤ sum_by pages_of (filter (λ s. may_hold_pointers (text_of s.name)) ss)
pages_sum fixups [] some none = omega arith
pages_sum fixups (s ∷ ss) some none =
    by (pages_sum fixups ss (λ k d lt. some (suc k) d (omega arith)) (λ k d lt. none (suc k) d (omega arith)))
    (may_hold_pointers (text_of s.name)) refl
  where
    split : all_pages fixups (map fixup_segment (s ∷ ss)) ≡ runs.pages_of (fixup_segment s) fixups + all_pages fixups (map fixup_segment ss)
    split = sum_by-cons (λ x. runs.pages_of x fixups) (fixup_segment s) (map fixup_segment ss)

    by : all_pages fixups (map fixup_segment ss) ≤ sum_by pages_of (filter (λ s. may_hold_pointers (text_of s.name)) ss)
        → (b : Bool) → may_hold_pointers (text_of s.name) ≡ b
        → all_pages fixups (map fixup_segment (s ∷ ss)) ≤ sum_by pages_of (filter (λ s. may_hold_pointers (text_of s.name)) (s ∷ ss))
    by rest true e =
        let here = some 0 s (omega arith) e in
        let kept : List PlacedSegment = filter (λ (s : PlacedSegment). may_hold_pointers (text_of s.name)) ss in
        rw e (omega (arith, rest, split, here, sum_by-cons pages_of s kept))
    by rest false e =
        let here = none 0 s (omega arith) e in
        rw e (omega (arith, rest, split, here))

-- THE pages of a run are among those that room is kept for
pub pages_kept : (l : Link) (counts : Counts) (p : Placed) (fixups : List Fixup) → IsSoundlyPlaced l counts p → IsRunOf l p fixups
    → all_pages fixups (fixup_segments p) ≤ pointer_pages p
pages_kept l counts p fixups sound run =
    pages_sum fixups p.segments
    (λ k d lt may. some_pages (get_or p.segments k d) fixups
    (paged_at l counts p (get_or p.segments k d) sound.placed.placed (Contains-get_or p.segments k d lt)))
    (λ k d lt none. no_pages l counts p (get_or p.segments k d) fixups sound run (Contains-get_or p.segments k d lt) none)
