-- The header of an output section says what its cell is.
--
-- The cell's title is the key's name, or that of what the linker makes; start, size and alignment are those of the piece around its
-- pieces. The file offset is told from the segment of its rank, which is the only one of that name; no sum wraps, since a segment's file
-- offset is at most its address.
use Rattle.std.proofs.Common.{◌≡◌, ℕ, zero, suc, ◌+◌, ◌-◌, ◌/◌, ◌%◌, ◌^◌, ◌<◌, ◌≤◌, nat_lt, if◌then◌else◌, Bool, true, false, cond, List, [], ◌∷◌, filter, length, get_or, All, AllPairs, Contains, refl, sym, ap, ◌∙◌, subst, arith}
use Rattle.std.proofs.lemmas.Bool.{lt-ltb, le-ltb, false_from_ne_true}
use Rattle.std.proofs.lemmas.Slice.Eq.{bytes_eq-Decides}
use Rattle.std.proofs.lemmas.List.{get_or_default}
use Rattle.std.proofs.lemmas.List.Elements.{All-nil, All-cons, All-head, All-tail, All-weaker}
use Rattle.macho_records.specs.declared.header.SectionHeader.{SectionHeader}
use Rattle.macho_records.specs.Segments.{text_of, name_field}
use Rattle.macho_model.specs.declared.placed.Counts.{Counts}
use Rattle.macho_model.specs.declared.placed.PlacedSegment.{PlacedSegment}
use Rattle.macho_model.specs.Links.{Link}
use Rattle.macho_model.specs.Segments.{TEXT, DATA_CONST, OutputKey, segment_rank}
use Rattle.macho_model.specs.Placement.{Placed, is_segment_named, IsPaged, Piece}
use Rattle.macho_model.specs.OutputSections.{is_zeros, flags_of_key}
use Rattle.macho_model.specs.steps.Outputs.{OutputSection, Merged, InitOffsets, UnwindInfo, Stubs, Slots, file_offset_of as model_offset, flags_of_output, stub_size_of, key_of_output, output_header}
use Rattle.macho_model.specs.Lists.{of_first}
use Rattle.macho_stack.specs.declared.place.Cell.{Cell}
use Rattle.macho_stack.specs.declared.place.PlacedCell.{PlacedCell}
use Rattle.macho_layout.specs.Plans.{Planning, IsPlanOf}
use Rattle.macho_layout.specs.Names.{output_at}
use Rattle.macho_layout.specs.Headers.{title_of, header_of, file_offset_of, no_segment}
use Rattle.macho_layout.specs.Places.{number_at}
use Rattle.macho_layout.specs.Sums.{FitsLimits, base_of}
use Rattle.macho_layout.specs.Laid.{IsLaidOut}
use Rattle.macho_layout_laws.proofs.Lists.{pairs_weaker}
use Rattle.macho_layout_laws.proofs.CellFacts.{at_start}
use Rattle.macho_layout_laws.proofs.Names.{RanksRise, names_rise, mapped_of}
use Rattle.macho_layout_laws.proofs.Places.{number_in, IsMapped, mapped_number, text_mapped, class_small}
use Rattle.macho_layout_laws.proofs.Scene.{Stands, address_low}
use Rattle.macho_layout_laws.proofs.Made.{init_cell, unwind_cell, stub_cell, slot_cell, const_there, const_number, text_number}
use Rattle.macho_layout_laws.proofs.Segments.{Chain, keep, texts_are, row_segment_named, contained_segment}
use Rattle.macho_layout_laws.proofs.Keys.{key_name, number_of, keys_many, output_named}
use Rattle.macho_layout_laws.proofs.Flags.{header_flags}
use Rattle.macho_layout_laws.proofs.Pieces.{Fits, cell_piece}
use Rattle.macho_layout_laws.proofs.Ordered.{cell_for, key_cell, KeyFacts, key_flags}
use Rattle.macho_bytes.proofs.Pairs.{pairs_tail, pairs_head, pairs_unmap}
use Rattle.macho_bytes.proofs.Maps.{filter-none}

-- a filter that one element passes
filter_one : {X : Type 0} (t : X → Bool) (xs : List X) (x : X) → AllPairs (λ a b. t a ≡ true → t b ≡ true → ⊥) xs → Contains xs x → t x
    ≡ true → filter t xs ≡ x ∷ []
filter_one {X} t xs x apart (k, low, is) passes = go xs k apart low is
  where
    rest_none : (y : X) (ys : List X) → t y ≡ true → AllPairs (λ a b. t a ≡ true → t b ≡ true → ⊥) (y ∷ ys) → filter t ys ≡ []
    rest_none y ys yes_it apart =
        filter-none t ys (All-weaker (λ (b : X). t y ≡ true → t b ≡ true → ⊥) (λ (b : X). t b ≡ false)
        (λ b f. false_from_ne_true (t b) (f yes_it)) ys (pairs_head (λ a b. t a ≡ true → t b ≡ true → ⊥) y ys apart))

    go : (ys : List X) (k : ℕ) → AllPairs (λ a b. t a ≡ true → t b ≡ true → ⊥) ys → k < length ys → get_or ys k x ≡ x → filter t ys ≡ x ∷ []
    go [] k apart low is = absurd (omega arith)
    go (y ∷ ys) zero apart low is =
        let yes_it : t y ≡ true = ap t is ∙ passes in
        ap (λ (b : Bool). cond b (y ∷ filter t ys) (filter t ys)) yes_it ∙ ap (λ (zs : List X). y ∷ zs) (rest_none y ys yes_it apart) ∙ ap
        (λ (z : X). z ∷ []) is
    go (y ∷ ys) (suc k) apart low is =
        let other : t y ≡ false
        = false_from_ne_true (t y) (λ yes_it. apart 0 (suc k) x (omega arith) low yes_it (ap t is ∙ passes)) in
        ap (λ (b : Bool). cond b (y ∷ filter t ys) (filter t ys)) other ∙ go ys k
        (pairs_tail (λ a b. t a ≡ true → t b ≡ true → ⊥) y ys apart) (omega arith) is

-- the file offset of an address of the first of some segments
abbrev file_offset_in : List PlacedSegment → ℕ → ℕ
file_offset_in ss address = of_first 0 (λ (s : PlacedSegment). s.file_offset + (address - s.address)) ss

-- file offsets grow no faster than addresses
chain_low : (a o : ℕ) (ss : List PlacedSegment) (a' o' : ℕ) → Chain a o ss a' o' → All IsPaged ss → o ≤ a → All
    (λ s. s.file_offset ≤ s.address) ss
chain_low a o [] a' o' chain paged low = All-nil (λ s. s.file_offset ≤ s.address)
chain_low a o (s ∷ ss) a' o' chain paged low =
    All-cons (λ s. s.file_offset ≤ s.address) s ss (omega (arith, chain.0, chain.1, low))
    (chain_low (a + s.size) (o + s.file_size) ss a' o' chain.2 (All-tail IsPaged s ss paged)
    (omega (arith, low, (All-head IsPaged s ss paged).file_size)))

-- the file offset, as the layout tells it
offset_is : (start address offset : ℕ) → address ≤ start → offset ≤ address → start < 2 ^ 64 →
    ((start + (2 ^ 64 - address)) % 2 ^ 64 + offset) % 2 ^ 64 ≡ offset + (start - address)
offset_is start address offset low less fits = omega (arith, low, less, fits)

module _ (l : Link) (p : Planning) (counts : Counts) (q : Placed) (plan : IsPlanOf l p) (fits : FitsLimits p counts)
    (h : IsLaidOut p counts q) where
  abbrev cf : OutputSection → Cell
  cf o = cell_for l p counts q plan fits h o

  -- no two segments have one name
  names_differ : (N : List ℕ) → AllPairs (λ a b. is_segment_named N a ≡ true → is_segment_named N b ≡ true → ⊥) q.segments
  names_differ N =
      let t : PlacedSegment → List ℕ = λ s. text_of s.name in
      pairs_weaker (λ a b. RanksRise l (t a) (t b)) (λ a b. is_segment_named N a ≡ true → is_segment_named N b ≡ true → ⊥)
      (λ a b rise x y. let e = ap (segment_rank l) ((bytes_eq-Decides (t a) N).0 x ∙ sym ((bytes_eq-Decides (t b) N).0 y)) in omega
      (arith, rise, e)) q.segments
      (pairs_unmap (RanksRise l) t q.segments (subst (AllPairs (RanksRise l)) (sym (texts_are l p counts q plan fits h)) (names_rise l)))

  -- the file offset of a cell of a segment
  cell_offset : (c : Cell) → Stands l p counts q plan fits h c → (N : List ℕ) → c.rank / 9 ≡ number_in l N → IsMapped l N
      → file_offset_of h.segments (at_start h.starts c) ≡ file_offset_in (filter (is_segment_named N) q.segments)
      (number_at h.starts c.number) % 2 ^ 32
  cell_offset c s N rank there =
      let seg : PlacedSegment = s.row.segment in
      let number : c.rank / 9 ≡ s.row.number = omega (arith, s.row.is) in
      let inside : nat_lt (c.rank / 9) (length h.segments) ≡ true = lt-ltb (c.rank / 9) (length h.segments)
      (omega (arith, number, s.row.low)) in
      let here : get_or h.segments (c.rank / 9) no_segment ≡ seg = ap (λ (k : ℕ). get_or h.segments k no_segment) number
      ∙ get_or_default h.segments s.row.number no_segment seg s.row.low ∙ s.row.at in
      let place : get_or (mapped_of l) s.row.number N ≡ N = ap (λ (k : ℕ). get_or (mapped_of l) k N) (sym number ∙ rank) ∙
      (mapped_number l N there).1 in
      let named : text_of seg.name ≡ N = ap (λ (x : PlacedSegment). text_of x.name) (sym s.row.at)
      ∙ row_segment_named l p counts q plan fits h s.row.number seg N s.row.low place in
      let alone : filter (is_segment_named N) q.segments ≡ seg ∷ []
      = filter_one (is_segment_named N) q.segments seg (names_differ N)
      (contained_segment l p counts q plan fits h s.row.number seg s.row.low s.row.at) ((bytes_eq-Decides (text_of seg.name) N).1 named) in
      let k = keep l p counts q plan fits h in
      let low = chain_low (base_of p) 0 h.segments h.address h.offset k.chain k.paged (omega arith) in
      let less : seg.file_offset ≤ seg.address = subst (λ (x : PlacedSegment). x.file_offset ≤ x.address) s.row.at
      (low s.row.number seg s.row.low) in
      let small : number_at h.starts c.number < 2 ^ 64 = omega (arith, s.high, address_low l p counts q plan fits h) in
      ap (λ (b : Bool). if b then ((number_at h.starts c.number + (2 ^ 64 - (get_or h.segments (c.rank / 9) no_segment).address)) % 2 ^ 64 +
      (get_or h.segments (c.rank / 9) no_segment).file_offset) % 2 ^ 64 % 2 ^ 32 else 0) inside
      ∙ ap (λ (x : PlacedSegment). ((number_at h.starts c.number + (2 ^ 64 - x.address)) % 2 ^ 64 + x.file_offset) % 2 ^ 64 % 2 ^ 32) here
      ∙ ap (λ (n : ℕ). n % 2 ^ 32) (offset_is (number_at h.starts c.number) seg.address seg.file_offset s.row.begins less small)
      ∙ sym (ap (λ (ss : List PlacedSegment). file_offset_in ss (number_at h.starts c.number) % 2 ^ 32) alone)

  -- the header of an output section with this piece around its pieces
  abbrev header_with : OutputSection → Piece → SectionHeader
  header_with o e = record {
    sectname = name_field (key_of_output o).name;
    segname = name_field (key_of_output o).segment;
    addr = e.start;
    size = e.size;
    offset = model_offset q (key_of_output o) e.start % 2 ^ 32;
    align = e.exponent;
    reloff = 0;
    nreloc = 0;
    flags = flags_of_output l o;
    reserved1 = 0;
    reserved2 = stub_size_of o;
    reserved3 = 0;
  }

  abbrev pub HeaderIs : OutputSection → Type 0
  HeaderIs o = header_of p h.extents h.segments (at_start h.starts (cf o)) ≡ output_header l q o

  abbrev head_of : PlacedCell → SectionHeader
  head_of c = header_of p h.extents h.segments c

  pub header_merged : (key : OutputKey) → KeyFacts l p counts q plan fits h key → Fits l p counts q plan fits h (Merged key)
      (key_cell l p counts q plan fits h key) → HeaderIs (Merged key)
  header_merged key facts fit =
      let n : ℕ = number_of l key in
      let c : Cell = key_cell l p counts q plan fits h key in
      let inside : nat_lt n (length h.extents) ≡ true = lt-ltb n (length h.extents)
      (omega (arith, facts.low, keys_many l p counts q plan fits h)) in
      let named : output_at p n ≡ key_name key = output_named l p counts q plan fits h n key facts.low ∙ ap key_name facts.at in
      let flags = header_flags l p counts q plan fits h n key facts.low facts.at in
      let small = class_small (key_name key) (key_flags l p counts q plan fits h key) in
      let offset = cell_offset c fit.stands key.segment (omega (arith, facts.rank, small)) facts.mapped in
      let title : title_of p h.extents n ≡ record { name = key_name key; flags = flags_of_key l key; stub_size = 0 } = rw
      (inside, named, flags) refl in
      by_title title (by (is_zeros key) offset) ∙ sym (ap (header_with (Merged key)) fit.extent)
    where
      by : (z : Bool) → file_offset_of h.segments (at_start h.starts (key_cell l p counts q plan fits h key))
          ≡ file_offset_in (filter (is_segment_named key.segment) q.segments)
          (number_at h.starts (key_cell l p counts q plan fits h key).number) % 2 ^ 32
          → (if z then 0 else file_offset_of h.segments (at_start h.starts (key_cell l p counts q plan fits h key)))
          ≡ (if z then 0 else file_offset_in (filter (is_segment_named key.segment) q.segments)
          (number_at h.starts (key_cell l p counts q plan fits h key).number)) % 2 ^ 32
      by true e = refl
      by false e = e

      by_title : title_of p h.extents (number_of l key) ≡ record { name = key_name key; flags = flags_of_key l key; stub_size = 0 }
          → (if is_zeros key then 0 else file_offset_of h.segments (at_start h.starts (key_cell l p counts q plan fits h key)))
          ≡ (if is_zeros key then 0 else file_offset_in (filter (is_segment_named key.segment) q.segments)
          (number_at h.starts (key_cell l p counts q plan fits h key).number)) % 2 ^ 32
          → header_of p h.extents h.segments (at_start h.starts (key_cell l p counts q plan fits h key)) ≡ header_with (Merged key)
          (cell_piece h.starts (key_cell l p counts q plan fits h key))
      by_title t o = rw (t, o) refl

  -- the header of what the linker makes
  made_offset : (c : Cell) → Stands l p counts q plan fits h c → c.rank / 9 ≡ 0 → file_offset_of h.segments (at_start h.starts c)
      ≡ file_offset_in (filter (is_segment_named TEXT) q.segments) (number_at h.starts c.number) % 2 ^ 32
  made_offset c s first = cell_offset c s TEXT (first ∙ sym (text_number l p counts q plan fits h)) (text_mapped l)

  pub header_init : Fits l p counts q plan fits h InitOffsets (init_cell l p counts q plan fits h) → HeaderIs InitOffsets
  header_init fit =
      let n : ℕ = length h.extents + 0 in
      let past : nat_lt (length h.extents + 0) (length h.extents) ≡ false = le-ltb (length h.extents + 0) (length h.extents)
      (omega arith) in
      let left : length h.extents + 0 - length h.extents ≡ 0 = omega arith in
      let offset = made_offset (init_cell l p counts q plan fits h) fit.stands refl in
      rw (past, left, offset) refl ∙ sym (ap (header_with InitOffsets) fit.extent)

  pub header_unwind : Fits l p counts q plan fits h UnwindInfo (unwind_cell l p counts q plan fits h) → HeaderIs UnwindInfo
  header_unwind fit =
      let past : nat_lt (length h.extents + 1) (length h.extents) ≡ false = le-ltb (length h.extents + 1) (length h.extents)
      (omega arith) in
      let left : length h.extents + 1 - length h.extents ≡ 1 = omega arith in
      let offset = made_offset (unwind_cell l p counts q plan fits h) fit.stands refl in
      rw (past, left, offset) refl ∙ sym (ap (header_with UnwindInfo) fit.extent)

  pub header_stubs : Fits l p counts q plan fits h Stubs (stub_cell l p counts q plan fits h) → HeaderIs Stubs
  header_stubs fit =
      let past : nat_lt (length h.extents + 2) (length h.extents) ≡ false = le-ltb (length h.extents + 2) (length h.extents)
      (omega arith) in
      let left : length h.extents + 2 - length h.extents ≡ 2 = omega arith in
      let offset = made_offset (stub_cell l p counts q plan fits h) fit.stands refl in
      rw (past, left, offset) refl ∙ sym (ap (header_with Stubs) fit.extent)

  pub header_slots : 0 < length p.slots → Fits l p counts q plan fits h Slots (slot_cell l p counts q plan fits h) → HeaderIs Slots
  header_slots some fit =
      let past : nat_lt (length h.extents + 3) (length h.extents) ≡ false = le-ltb (length h.extents + 3) (length h.extents)
      (omega arith) in
      let left : length h.extents + 3 - length h.extents ≡ 3 = omega arith in
      let offset = cell_offset (slot_cell l p counts q plan fits h) fit.stands DATA_CONST
      (sym (const_number l p counts q plan fits h some).1) (const_there l p counts q plan fits h some) in
      rw (past, left, offset) refl ∙ sym (ap (header_with Slots) fit.extent)
