-- The pieces of an output section are one stack from the start of its cell to its end.
--
-- The members of a cell are a stack from 0 on; moved by the cell's start, a multiple of the greatest alignment, they are one from there on.
-- Equal parts of whole alignments are one, and so is one range. So the piece around an output section's pieces is the cell.
use Rattle.std.proofs.Common.{◌≡◌, ℕ, suc, ◌+◌, ◌*◌, ◌-◌, ◌%◌, ◌^◌, ◌<◌, ◌≤◌, Bool, true, false, cond, List, [], ◌∷◌, ◌++◌, map, filter, length, get_or, All, Contains, refl, sym, ap, ◌∙◌, subst, arith, inl, inr}
use Rattle.std.proofs.lemmas.Bool.{eq-eqb, eqb-true}
use Rattle.std.proofs.lemmas.Nat.{pow_pos}
use Rattle.std.proofs.lemmas.List.{map-append, take-append-drop, length-map, get_or_default}
use Rattle.std.proofs.lemmas.List.Elements.{All-map, All-filter, All-contains, recursion_from_All, filter-append, filter_passes, Contains-append_left, Contains-append_right}
use Rattle.macho_bytes.specs.Numbers.{rounded_up}
use Rattle.macho_records.specs.Symbols.{common_exponent_of}
use Rattle.macho_model.specs.declared.placed.Counts.{Counts}
use Rattle.macho_model.specs.declared.placed.PlacedSection.{PlacedSection}
use Rattle.macho_model.specs.declared.placed.PlacedCommon.{PlacedCommon}
use Rattle.macho_model.specs.declared.placed.Slot.{Slot}
use Rattle.macho_model.specs.declared.placed.Stub.{Stub}
use Rattle.macho_model.specs.Links.{Link, SectionId, placed_exponent, greatest}
use Rattle.macho_model.specs.Resolution.{entry_at}
use Rattle.macho_model.specs.Segments.{OutputKey, same_key, common_key, output_keys_of, list_if}
use Rattle.macho_model.specs.Placement.{Placed, id_of, common_of, Piece}
use Rattle.macho_model.specs.Zeros.{Span}
use Rattle.macho_model.specs.Spans.{section_span, common_span, slot_span, stub_span, range_span, piece}
use Rattle.macho_model.specs.steps.Outputs.{OutputSection, Merged, InitOffsets, UnwindInfo, Stubs, Slots, pieces_of, extent_of}
use Rattle.macho_model.specs.OutputSections.{around}
use Rattle.macho_stack.specs.declared.members.Member.{Member}
use Rattle.macho_stack.specs.declared.members.PlacedMember.{PlacedMember}
use Rattle.macho_stack.specs.declared.place.Cell.{Cell}
use Rattle.macho_stack.specs.Blocks.{Block, StandLeast}
use Rattle.macho_stack.specs.Stacks.{extent_at, is_in_cell, members_in, block_of}
use Rattle.macho_stack.proofs.Multiples.{rounded-same, multiple-weaker}
use Rattle.macho_stack.proofs.StackRows.{row-moves, moved}
use Rattle.macho_layout.specs.Plans.{Planning, IsPlanOf}
use Rattle.macho_layout.specs.Names.{mapped_names}
use Rattle.macho_layout.specs.Members.{first_flags}
use Rattle.macho_layout.specs.Cells.{cells_of}
use Rattle.macho_layout.specs.Places.{number_at}
use Rattle.macho_layout.specs.Sums.{FitsLimits}
use Rattle.macho_layout.specs.Laid.{IsLaidOut}
use Rattle.macho_layout.proofs.CostLaw.{fold_greatest}
use Rattle.macho_layout.proofs.Whole.{sections_are_listed}
use Rattle.macho_layout_laws.proofs.Lists.{zip_map, zip_and, zip_filter, zip_find, filter_flag}
use Rattle.macho_layout_laws.proofs.Stacks.{piece_block, around_is}
use Rattle.macho_layout_laws.proofs.Members.{SectionAt, CommonAt, back_are, sections_zip, commons_zip, section_members, common_members}
use Rattle.macho_layout_laws.proofs.Scene.{home, home_there, Stands, stands, MemberStands, members_stand, section_members_stand, common_members_stand, zip_right}
use Rattle.macho_layout_laws.proofs.Counted.{all_ranks, output_from}
use Rattle.macho_layout_laws.proofs.Homes.{section_span_is, common_span_is, member_span}
use Rattle.macho_layout_laws.proofs.Keys.{IsKey, key_at, key_name, keys_are_keys, same_names, numbers_agree, number_of, key_number, keys_many, output_named, output_key_is, section_key_at, common_key_at}
use Rattle.macho_layout_laws.proofs.Lying.{section_exponent, slot_at, stub_at, slots_start, stubs_start, slots_whole, stubs_whole, sum_whole}
use Rattle.macho_layout_laws.proofs.Made.{init_cell, unwind_cell, stub_cell, slot_cell, init_stands, unwind_stands, stubs_stand, slots_stand, init_range, unwind_range, length-numbered}
use Rattle.macho_bytes.proofs.Maps.{map_agree, map_map}
use Rattle.macho_bytes.proofs.Members.{map_contains, contains_filter}

-- the piece that a cell is
abbrev pub cell_piece : List ℕ → Cell → Piece
cell_piece starts c = record { start = number_at starts c.number; size = c.size; exponent = c.exponent }

-- equal parts one behind the other are a stack
equal_stack : {X : Type 0} (f : X → Piece) (size e : ℕ) (at : ℕ → ℕ) → ((k : ℕ) → at (suc k) ≡ at k + size) → size % 2 ^ e ≡ 0
    → at 0 % 2 ^ e ≡ 0 → (xs : List X)
    → ((k : ℕ) (d : X) → k < length xs → f (get_or xs k d) ≡ record { start = at k; size = size; exponent = e }) → StandLeast (at 0)
    (map piece_block (map f xs)) (at (length xs))
equal_stack f size e at step whole first [] is = refl
equal_stack f size e at step whole first (x ∷ xs) is =
    let here = is 0 x (omega arith) in
    let start : (f x).start ≡ at 0 = ap (λ (c : Piece). c.start) here in
    let long : (f x).size ≡ size = ap (λ (c : Piece). c.size) here in
    let end : at 1 ≡ (f x).start + (f x).size = step 0 ∙ omega (arith, start, long) in
    let next : at 1 % 2 ^ e ≡ 0 = ap (λ (n : ℕ). n % 2 ^ e) (step 0) ∙ sum_whole (2 ^ e) (at 0) size (pow_pos e) first whole in
    let rest = equal_stack f size e (λ k. at (suc k)) (λ k. step (suc k)) whole next xs (λ k d low. is (suc k) d (omega arith)) in (
      start ∙ sym (ap (λ (k : ℕ). rounded_up (2 ^ k) (at 0)) (ap (λ (c : Piece). c.exponent) here) ∙ rounded-same (2 ^ e) (at 0)
          (pow_pos e) first),
      subst (λ (n : ℕ). StandLeast n (map piece_block (map f xs)) (at (length (x ∷ xs)))) end rest,
    )

equal_greatest : {X : Type 0} (f : X → ℕ) (e : ℕ) (x : X) (xs : List X) → ((y : X) → f y ≡ e) → greatest (map f (x ∷ xs)) ≡ e
equal_greatest f e x [] is = omega (arith, is x)
equal_greatest f e x (y ∷ xs) is = omega (arith, is x, equal_greatest f e y xs is)

module _ (l : Link) (p : Planning) (counts : Counts) (q : Placed) (plan : IsPlanOf l p) (fits : FitsLimits p counts)
    (h : IsLaidOut p counts q) where
  -- the pieces of an output section fit its cell
  pub record Fits (o : OutputSection) (c : Cell) : Type 0 where
    pub stands : Stands l p counts q plan fits h c
    pub first : Piece
    pub rest : List Piece
    pub are : pieces_of l q o ≡ first ∷ rest
    pub stack : StandLeast (number_at h.starts c.number) (map piece_block (pieces_of l q o)) (number_at h.starts c.number + c.size)
    pub extent : extent_of l q o ≡ cell_piece h.starts c

  -- what is a stack from the start of a cell to its end, with its greatest alignment, fits it
  fits_from : (o : OutputSection) (c : Cell) (cs : List Piece) → pieces_of l q o ≡ cs → 1 ≤ length cs → Stands l p counts q plan fits h c
      → StandLeast (number_at h.starts c.number) (map piece_block cs) (number_at h.starts c.number + c.size) → greatest
      (map (λ (x : Piece). x.exponent) cs) ≡ c.exponent → Fits o c
  fits_from o c [] are some s stack exponent = absurd (omega (arith, some))
  fits_from o c (x ∷ xs) are some s stack exponent =
      let small : x.exponent ≤ c.exponent = omega (arith, exponent) in
      let size : number_at h.starts c.number + c.size - number_at h.starts c.number ≡ c.size = omega arith in
      record {
        stands = s;
        first = x;
        rest = xs;
        are = are;
        stack = subst (λ (cs : List Piece). StandLeast (number_at h.starts c.number) (map piece_block cs)
            (number_at h.starts c.number + c.size)) (sym are) stack;
        extent = ap around are
            ∙ around_is (number_at h.starts c.number) x xs (number_at h.starts c.number + c.size)
            (multiple-weaker x.exponent c.exponent (number_at h.starts c.number) small s.whole) stack
            ∙ ap (λ (n : ℕ). record {
              start = number_at h.starts c.number;
              size = n;
              exponent = greatest
                  (map (λ (x : Piece). x.exponent) (x ∷ xs));
            }) size
            ∙ ap (λ (n : ℕ). record { start = number_at h.starts c.number; size = c.size; exponent = n }) exponent;
      }

  abbrev StandsM : PlacedMember → Type 0
  StandsM m = MemberStands l p counts q plan fits h m

  -- a member as a piece
  abbrev member_piece : PlacedMember → Piece
  member_piece m = record { start = number_at h.starts m.member.cell + m.offset; size = m.member.size; exponent = m.member.exponent }

  abbrev section_piece : PlacedSection → Piece
  section_piece s = piece (placed_exponent l (id_of s)) (section_span l s)

  abbrev common_piece : PlacedCommon → Piece
  common_piece c = piece (common_exponent_of (entry_at l (common_of l c.id))) (common_span l c)

  section_piece_is : (s : PlacedSection) (m : PlacedMember) → SectionAt l p h.starts s m × StandsM m → section_piece s ≡ member_piece m
  section_piece_is s m (at, stand) =
      ap (λ (x : Span). piece (placed_exponent l (id_of s)) x) (section_span_is l p counts q plan fits h s m (at, stand))
      ∙ ap (λ (e : ℕ). piece e (member_span l p counts q plan fits h m)) (sym (section_exponent l p counts q plan fits h s m at))

  common_piece_is : (c : PlacedCommon) (m : PlacedMember) → CommonAt l p h.starts c m × StandsM m → common_piece c ≡ member_piece m
  common_piece_is c m (at, stand) =
      ap (λ (x : Span). piece (common_exponent_of (entry_at l (common_of l c.id))) x)
      (common_span_is l p counts q plan fits h c m (at, stand))
      ∙ ap (λ (e : ℕ). piece e (member_span l p counts q plan fits h m)) (sym (ap (λ (x : Member). x.exponent) at.member))

  abbrev keys : List OutputKey
  keys = output_keys_of l

  -- the pieces of a merged output section are the members of its cell
  merged_are : (n : ℕ) (key : OutputKey) → n < length keys → get_or keys n key ≡ key → pieces_of l q (Merged key) ≡ map member_piece
      (members_in n h.members)
  unfolding pieces_of
  merged_are n key low is =
      let u : PlacedMember → Bool = is_in_cell n in
      let t : PlacedSection → Bool = λ s. same_key (key_at l (id_of s)) key in
      let sections = zip_and (SectionAt l p h.starts) StandsM q.sections (section_members p h.members) (sections_zip l p counts q plan h)
      (section_members_stand l p counts q plan fits h) in
      let commons = zip_and (CommonAt l p h.starts) StandsM q.commons (common_members p h.members) (commons_zip l p counts q plan h)
      (common_members_stand l p counts q plan fits h) in
      let one : map section_piece (filter t q.sections) ≡ map member_piece (filter u (section_members p h.members))
      = zip_map (λ s m. SectionAt l p h.starts s m × StandsM m) section_piece member_piece section_piece_is (filter t q.sections)
      (filter u (section_members p h.members))
      (zip_filter (λ s m. SectionAt l p h.starts s m × StandsM m) t u
      (λ s m at. let k = section_key_at l p counts q plan fits h s m at.0 in numbers_agree l
      (key_at l (id_of s)) key m.member.cell n k.0 k.1 low is)
      q.sections (section_members p h.members) sections) in
      let flags : All (λ m. u m ≡ same_key common_key key) (common_members p h.members)
      = zip_right (λ c m. CommonAt l p h.starts c m × StandsM m) (λ m. u m ≡ same_key common_key key)
      (λ c m at. let k = common_key_at l p counts q plan fits h c m at.0 in sym
      (numbers_agree l common_key key m.member.cell n k.0 k.1 low is)) q.commons (common_members p h.members) commons in
      let all : map common_piece q.commons ≡ map member_piece (common_members p h.members)
      = zip_map (λ c m. CommonAt l p h.starts c m × StandsM m) common_piece member_piece common_piece_is q.commons
      (common_members p h.members) commons in
      let two : list_if (same_key common_key key) (map common_piece q.commons) ≡ map member_piece (filter u (common_members p h.members))
      = ap (list_if (same_key common_key key)) all ∙ flag_map (same_key common_key key) (common_members p h.members)
      ∙ sym (ap (map member_piece) (filter_flag u (same_key common_key key) (common_members p h.members) flags)) in
      ap (λ (cs : List Piece). cs ++ list_if (same_key common_key key) (map common_piece q.commons)) one
      ∙ ap (λ (cs : List Piece). map member_piece (filter u (section_members p h.members)) ++ cs) two
      ∙ sym (map-append member_piece (filter u (section_members p h.members)) (filter u (common_members p h.members)))
      ∙ sym (ap (map member_piece) (filter-append u (section_members p h.members) (common_members p h.members)))
      ∙ ap (λ (ms : List PlacedMember). map member_piece (filter u ms)) (take-append-drop (length p.sections) h.members)
    where
      flag_map : (b : Bool) (ms : List PlacedMember) → list_if b (map member_piece ms) ≡ map member_piece (cond b ms [])
      flag_map true ms = refl
      flag_map false ms = refl

  -- some member has the number of a key
  some_member : (n : ℕ) (key : OutputKey) → n < length keys → get_or keys n key ≡ key → 1 ≤ length (members_in n h.members)
  some_member n key low is =
      elim (output_from l p counts q plan fits h n (omega (arith, low, keys_many l p counts q plan fits h))) [
        | inl x ↦
            let listed : Contains (map id_of q.sections) x.0 = subst (λ (ss : List SectionId). Contains ss x.0)
            (sym (sections_are_listed l p counts q plan h)) x.1 in
            let found = map_contains id_of q.sections x.0 listed in
            let m = zip_find (SectionAt l p h.starts) q.sections (section_members p h.members) found.0
            (sections_zip l p counts q plan h) found.1 in
            let k = section_key_at l p counts q plan fits h found.0 m.0 m.2 in
            let name : key_name key ≡ key_name (key_at l (id_of found.0))
            = ap key_name (sym is) ∙ sym (output_named l p counts q plan fits h n key low) ∙ x.2 ∙ output_key_is l x.0 ∙ ap
            (λ (s : SectionId). key_name (key_at l s)) (sym found.2) in
            same_cell m.0 (key_at l (id_of found.0)) k.0 k.1 name (Contains-append_left (section_members p h.members)
            (common_members p h.members) m.0 m.1)
        | inr y ↦
            let long : length (common_members p h.members) ≡ length p.commons = long_is in
            let m : PlacedMember = get_or (common_members p h.members) 0 none in
            let all = zip_right (CommonAt l p h.starts) (λ m. (c : PlacedCommon) × CommonAt l p h.starts c m) (λ c m at. (c, at)) q.commons
            (common_members p h.members) (commons_zip l p counts q plan h) in
            let at = all 0 none (omega (arith, long, y.1)) in
            let k = common_key_at l p counts q plan fits h at.0 m at.1 in
            let name : key_name key ≡ key_name common_key = ap key_name (sym is) ∙ sym (output_named l p counts q plan fits h n key low)
            ∙ y.0 in
            same_cell m common_key k.0 k.1 name (Contains-append_right (section_members p h.members) (common_members p h.members) m
            (0, omega (arith, long, y.1), get_or_default (common_members p h.members) 0 m none (omega (arith, long, y.1))))
      ]
    where
      none : PlacedMember
      none = record { member = record { cell = 0; exponent = 0; flags = 0; size = 0 }; offset = 0 }

      long_is : length (common_members p h.members) ≡ length p.commons
      long_is = sym (length-map (common_members p h.members) (λ (m : PlacedMember). m.member)) ∙ ap length (back_are l p counts q plan h)
          ∙ length-map p.commons _

      same_cell : (m : PlacedMember) (k : OutputKey) → m.member.cell < length keys → get_or keys m.member.cell k ≡ k → key_name key
          ≡ key_name k
          → Contains (section_members p h.members ++ common_members p h.members) m → 1 ≤ length (members_in n h.members)
      same_cell m k low_m at_m name there =
          let same : key ≡ k
          = same_names key k (subst IsKey is (keys_are_keys l n key low)) (subst IsKey at_m (keys_are_keys l m.member.cell k low_m)) name in
          let cell : m.member.cell ≡ n = sym (key_number l m.member.cell k low_m at_m) ∙ ap (number_of l) (sym same)
          ∙ key_number l n key low is in
          let inside : Contains h.members m = subst (λ (ms : List PlacedMember). Contains ms m)
          (take-append-drop (length p.sections) h.members) there in
          let kept = contains_filter (is_in_cell n) h.members m inside (eq-eqb m.member.cell n cell) in
          omega (arith, kept.1)

  -- a merged output section fits the cell of its key's number
  pub merged_fits : (n : ℕ) (key : OutputKey) → n < length keys → get_or keys n key ≡ key → Fits (Merged key)
      (home l p counts q plan fits h n)
  merged_fits n key low is =
      let c : Cell = home l p counts q plan fits h n in
      let inside : n < length h.extents = omega (arith, low, keys_many l p counts q plan fits h) in
      let there = home_there l p counts q plan fits h n inside in
      let s : Stands l p counts q plan fits h c = stands l p counts q plan fits h c there
      (All-contains (λ (x : Cell). x.rank < 9 * length (mapped_names p)) (cells_of p counts (mapped_names p) h.extents) c
      (all_ranks l p counts q plan fits h) there) in
      let ms : List PlacedMember = members_in n h.members in
      let start : ℕ = number_at h.starts n in
      let e : ℕ = (extent_at h.extents n).exponent in
      let flag : n < length (first_flags p) = omega (arith, inside, h.stacked.many) in
      let own : All (λ m. is_in_cell n m ≡ true) ms = filter_passes (is_in_cell n) h.members in
      let small : All (λ (m : PlacedMember). m.member.exponent ≤ e) ms =
      λ k d short.
      let cell = eqb-true (get_or ms k d).member.cell n (own k d short) in
      let one = All-filter (is_in_cell n) (λ (m : PlacedMember). m.member.exponent ≤ (extent_at h.extents m.member.cell).exponent) h.members
      (λ i x w. (members_stand l p counts q plan fits h i x w).in_cell.small) k d short in
      omega (arith, one, ap (λ (i : ℕ). (extent_at h.extents i).exponent) cell) in
      let blocks : map piece_block (map member_piece ms) ≡ map (moved start) (map block_of ms)
      = map_map piece_block member_piece ms
      ∙ map_agree (λ m. piece_block (member_piece m)) (λ m. moved start (block_of m)) ms
      (λ k d short. ap (λ (i : ℕ). record {
        start = number_at h.starts i + (get_or ms k d).offset;
        size =
            (get_or ms k d).member.size;
        exponent = (get_or ms k d).member.exponent;
      }) (eqb-true (get_or ms k d).member.cell n (own k d short)))
      ∙ sym (map_map (moved start) block_of ms) in
      let moves = row-moves start e 0 (map block_of ms) (extent_at h.extents n).size s.whole
      (recursion_from_All (λ (b : Block). b.exponent ≤ e) (map block_of ms) (All-map (λ (b : Block). b.exponent ≤ e) block_of ms small))
      (h.stacked.stacks n flag).least in
      let zero_first : start + 0 ≡ start = omega arith in
      let stack : StandLeast start (map piece_block (map member_piece ms)) (start + (extent_at h.extents n).size)
      = subst (λ (bs : List Block). StandLeast start bs (start + (extent_at h.extents n).size)) (sym blocks)
      (subst (λ (i : ℕ). StandLeast i (map (moved start) (map block_of ms)) (start + (extent_at h.extents n).size)) zero_first moves) in
      let exponent : greatest (map (λ (x : Piece). x.exponent) (map member_piece ms)) ≡ e
      = ap greatest (map_map (λ (x : Piece). x.exponent) member_piece ms)
      ∙ omega (arith, fold_greatest 0 (map (λ (m : PlacedMember). m.member.exponent) ms), h.stacked.exponents n flag) in
      fits_from (Merged key) c (map member_piece ms) (merged_are n key low is)
      (omega (arith, some_member n key low is, length-map ms member_piece)) s stack exponent

  pub init_fits : 0 < counts.initializers → Fits InitOffsets (init_cell l p counts q plan fits h)
  unfolding pieces_of
  init_fits some =
      let r = init_range l p counts q plan fits h in
      let s = init_stands l p counts q plan fits h some in
      fits_from InitOffsets (init_cell l p counts q plan fits h) (piece 2 (range_span q.init_offsets) ∷ []) refl (omega arith) s
      (r.0 ∙ sym (rounded-same (2 ^ 2) (number_at h.starts (length h.extents + 0)) (pow_pos 2) s.whole), omega (arith, r.0, r.1)) refl

  pub unwind_fits : 0 < counts.unwind → Fits UnwindInfo (unwind_cell l p counts q plan fits h)
  unfolding pieces_of
  unwind_fits some =
      let r = unwind_range l p counts q plan fits h in
      let s = unwind_stands l p counts q plan fits h some in
      fits_from UnwindInfo (unwind_cell l p counts q plan fits h) (piece 2 (range_span q.unwind) ∷ []) refl (omega arith) s
      (r.0 ∙ sym (rounded-same (2 ^ 2) (number_at h.starts (length h.extents + 1)) (pow_pos 2) s.whole), omega (arith, r.0, r.1)) refl

  pub stubs_fit : 0 < length p.stubs → Fits Stubs (stub_cell l p counts q plan fits h)
  unfolding pieces_of
  stubs_fit some =
      let many : length q.stubs ≡ length p.stubs = ap length h.from_them.stubs ∙ length-numbered _ 0 p.stubs in
      let f : Stub → Piece = λ s. piece 2 (stub_span s) in
      let at : ℕ → ℕ = λ k. stubs_start l p counts q plan fits h + 12 * k in
      let first : at 0 ≡ stubs_start l p counts q plan fits h = omega arith in
      let whole : at 0 % 2 ^ 2 ≡ 0 = ap (λ (n : ℕ). n % 4) first ∙ stubs_whole l p counts q plan fits h some in
      let stack = equal_stack f 12 2 at (λ k. omega arith) refl whole q.stubs
      (λ k d low. ap (λ (n : ℕ). record { start = n; size = 12; exponent = 2 }) (stub_at l p counts q plan fits h k d low).1) in
      let moved_first = subst (λ (n : ℕ). StandLeast n (map piece_block (map f q.stubs)) (at (length q.stubs))) first stack in
      let last : at (length q.stubs) ≡ stubs_start l p counts q plan fits h + 12 * length p.stubs = omega (arith, many) in
      fits_from Stubs (stub_cell l p counts q plan fits h) (map f q.stubs) refl (omega (arith, some, many, length-map q.stubs f))
      (stubs_stand l p counts q plan fits h some)
      (subst (λ (n : ℕ). StandLeast (stubs_start l p counts q plan fits h) (map piece_block (map f q.stubs)) n) last moved_first)
      (exponents q.stubs (omega (arith, some, many)))
    where
      exponents : (ss : List Stub) → 1 ≤ length ss → greatest (map (λ (x : Piece). x.exponent)
          (map (λ (s : Stub). piece 2 (stub_span s)) ss)) ≡ 2
      exponents [] low = absurd (omega (arith, low))
      exponents (s ∷ ss) low = ap greatest (map_map (λ (x : Piece). x.exponent) (λ (s : Stub). piece 2 (stub_span s)) (s ∷ ss))
          ∙ equal_greatest (λ (s : Stub). 2) 2 s ss (λ y. refl)

  pub slots_fit : 0 < length p.slots → Fits Slots (slot_cell l p counts q plan fits h)
  unfolding pieces_of
  slots_fit some =
      let many : length q.slots ≡ length p.slots = ap length h.from_them.slots ∙ length-numbered _ 0 p.slots in
      let f : Slot → Piece = λ s. piece 3 (slot_span s) in
      let at : ℕ → ℕ = λ k. slots_start l p counts q plan fits h + 8 * k in
      let first : at 0 ≡ slots_start l p counts q plan fits h = omega arith in
      let whole : at 0 % 2 ^ 3 ≡ 0 = ap (λ (n : ℕ). n % 8) first ∙ slots_whole l p counts q plan fits h some in
      let stack = equal_stack f 8 3 at (λ k. omega arith) refl whole q.slots
      (λ k d low. ap (λ (n : ℕ). record { start = n; size = 8; exponent = 3 }) (slot_at l p counts q plan fits h k d low).1) in
      let moved_first = subst (λ (n : ℕ). StandLeast n (map piece_block (map f q.slots)) (at (length q.slots))) first stack in
      let last : at (length q.slots) ≡ slots_start l p counts q plan fits h + 8 * length p.slots = omega (arith, many) in
      fits_from Slots (slot_cell l p counts q plan fits h) (map f q.slots) refl (omega (arith, some, many, length-map q.slots f))
      (slots_stand l p counts q plan fits h some)
      (subst (λ (n : ℕ). StandLeast (slots_start l p counts q plan fits h) (map piece_block (map f q.slots)) n) last moved_first)
      (exponents q.slots (omega (arith, some, many)))
    where
      exponents : (ss : List Slot) → 1 ≤ length ss → greatest (map (λ (x : Piece). x.exponent)
          (map (λ (s : Slot). piece 3 (slot_span s)) ss)) ≡ 3
      exponents [] low = absurd (omega (arith, low))
      exponents (s ∷ ss) low = ap greatest (map_map (λ (x : Piece). x.exponent) (λ (s : Slot). piece 3 (slot_span s)) (s ∷ ss))
          ∙ equal_greatest (λ (s : Slot). 3) 3 s ss (λ y. refl)
