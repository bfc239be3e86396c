-- A link's plan, laid out: where each member and each thing that the linker makes stands.
--
-- The output section of a section has the section's name, so its segment is the section's; that of the commons is `__common` of
-- `__DATA`. Each is a cell whose rank is one of the rows, so it stands; all cells end before the tables, far below 2^64, so no sum wraps.
use Rattle.std.proofs.Common.{◌≡◌, ℕ, ◌+◌, ◌*◌, ◌/◌, ◌%◌, ◌^◌, ◌<◌, ◌≤◌, ◌==◌, ◌||◌, nat_lt, not, Bool, true, List, [], ◌∷◌, ◌++◌, map, length, get_or, All, Contains, refl, sym, ap, ◌∙◌, subst, arith, inl, inr}
use Rattle.std.specs.List.{list_any, position_or_len, range_with_len, AllZip}
use Rattle.std.proofs.lemmas.Bool.{ltb-true, ltb-false, ne_eqb, cases_Bool, or_right}
use Rattle.std.proofs.lemmas.List.{get_or_past, get_or-take, get_or-drop, length-map, length-take, length-drop, take-append-drop}
use Rattle.std.proofs.lemmas.List.Elements.{All-nil, All-cons, All-append, All-same, Contains-append_left}
use Rattle.std.proofs.lemmas.List.Folds.{list_any_at}
use Rattle.std.proofs.lemmas.List.FromFn.{length-map-range_with_len, get_or-map-range_with_len}
use Rattle.std.proofs.lemmas.List.Sums.{passes_at_first, prefix_len-le-length}
use Rattle.macho_records.specs.Sections.{segment_name_of}
use Rattle.macho_model.specs.declared.placed.Counts.{Counts}
use Rattle.macho_model.specs.declared.placed.PlacedSection.{PlacedSection}
use Rattle.macho_model.specs.declared.placed.PlacedCommon.{PlacedCommon}
use Rattle.macho_model.specs.Links.{Link, SectionId, header_at, carried_of}
use Rattle.macho_model.specs.Resolution.{chosen_commons}
use Rattle.macho_model.specs.Segments.{DATA, has_section_in, key_of, same_key}
use Rattle.macho_model.specs.Placement.{Placed, id_of}
use Rattle.macho_stack.specs.declared.members.Member.{Member}
use Rattle.macho_stack.specs.declared.members.PlacedMember.{PlacedMember}
use Rattle.macho_stack.specs.declared.place.Cell.{Cell}
use Rattle.macho_stack.specs.Stacks.{extent_at}
use Rattle.macho_stack.specs.Ranks.{cell_cost}
use Rattle.macho_stack.proofs.Ranks.{ranks-cost}
use Rattle.macho_layout.specs.declared.spec.OutputName.{OutputName}
use Rattle.macho_layout.specs.Plans.{Planning, IsPlanOf}
use Rattle.macho_layout.specs.Keys.{padded, same_output}
use Rattle.macho_layout.specs.Names.{mapped_names, section_outputs, merged_count, output_at, common_output, COMMON_NAME}
use Rattle.macho_layout.specs.Cells.{segment_number, class_of, merged_cell, made_cells, cells_of}
use Rattle.macho_layout.specs.Places.{behind, number_at}
use Rattle.macho_layout.specs.Sums.{base_of, head_size, FitsLimits}
use Rattle.macho_layout.specs.Laid.{IsLaidOut}
use Rattle.macho_layout.proofs.Costs.{members-cost-is}
use Rattle.macho_layout.proofs.Rooms.{commons_there, flags_many}
use Rattle.macho_layout.proofs.SumLaw.{output_key, outputs_are, outputs_once, outputs_agree, commons_many}
use Rattle.macho_layout.proofs.TableRooms.{rows_room}
use Rattle.macho_layout.proofs.Tables.{output-decides}
use Rattle.macho_layout_laws.proofs.CellFacts.{CellStands, cell_stands, cells_numbered_apart}
use Rattle.macho_layout_laws.proofs.Members.{SectionAt, CommonAt, IsInCell, member_in, section_members, common_members, sections_zip, commons_zip}
use Rattle.macho_layout_laws.proofs.Names.{IsName, name_twice, mapped_of, mapped_are, segment_key_is}
use Rattle.macho_layout_laws.proofs.Places.{number_in, number_is, IsMapped, mapped_number, section_mapped, data_mapped, class_small}
use Rattle.macho_bytes.proofs.Members.{place_inside}
use Rattle.macho_bytes.proofs.Maps.{any_map}
use Rattle.macho_model.proofs.Distinct.{any_distinct}

-- what holds beside corresponding elements
pub zip_right : {X Y : Type 0} (R : X → Y → Type 0) (P : Y → Type 0) → ((x : X) (y : Y) → R x y → P y) → (xs : List X) (ys : List Y)
    → AllZip R xs ys → All P ys
zip_right R P e [] [] h = All-nil P
zip_right R P e [] (y ∷ ys) h = absurd h
zip_right R P e (x ∷ xs) [] h = absurd h
zip_right R P e (x ∷ xs) (y ∷ ys) h = All-cons P y ys (e x y h.0) (zip_right R P e xs ys h.1)

-- the output section that a section is merged into has its name
pub section_output : (l : Link) (p : Planning) (s : SectionId) → IsPlanOf l p → Contains (carried_of l) s
    → (position_or_len (same_output (output_key l s)) (section_outputs p) < length (section_outputs p))
    × (output_at p (position_or_len (same_output (output_key l s)) (section_outputs p)) ≡ output_key l s)
section_output l p s plan there =
    let t : OutputName → Bool = same_output (output_key l s) in
    let same : (a b : SectionId) → same_key (key_of (header_at l a)) (key_of (header_at l b)) ≡ true → same_output (output_key l s)
    (output_key l a) ≡ same_output (output_key l s) (output_key l b)
    = λ a b e. ap (same_output (output_key l s)) ((output-decides (output_key l a) (output_key l b)).0 (outputs_agree l a b ∙ e)) in
    let some : list_any (same_output (output_key l s)) (section_outputs p) ≡ true
    = ap (list_any (same_output (output_key l s))) (outputs_are l p plan) ∙ any_map (same_output (output_key l s)) (output_key l)
    (outputs_once l)
    ∙ any_distinct (λ a b. same_key (key_of (header_at l a)) (key_of (header_at l b)))
    (λ a. same_output (output_key l s) (output_key l a)) same (carried_of l)
    ∙ list_any_at (λ a. same_output (output_key l s) (output_key l a)) (carried_of l) there.0 s there.1
    (ap (λ (a : SectionId). same_output (output_key l s) (output_key l a)) there.2 ∙
    (output-decides (output_key l s) (output_key l s)).1 refl) in
    let inside = place_inside (same_output (output_key l s)) (section_outputs p) some in (
      inside,
      sym ((output-decides (output_key l s) (output_at p (position_or_len (same_output (output_key l s)) (section_outputs p)))).0
          (passes_at_first (same_output (output_key l s)) (section_outputs p) COMMON_NAME inside)),
    )

-- and so has that of the commons
pub common_output_is : (p : Planning) → output_at p (common_output p) ≡ COMMON_NAME
common_output_is p =
    let most = prefix_len-le-length (λ x. not (same_output COMMON_NAME x)) (section_outputs p) in
    elim (cases_Bool (nat_lt (common_output p) (length (section_outputs p)))) [
      | inl inside ↦ sym ((output-decides COMMON_NAME (output_at p (common_output p))).0
          (passes_at_first (same_output COMMON_NAME) (section_outputs p) COMMON_NAME (ltb-true _ _ inside)))
      | inr past ↦ get_or_past (section_outputs p) (common_output p) COMMON_NAME (ltb-false _ _ past)
    ]

module _ (l : Link) (p : Planning) (counts : Counts) (q : Placed) (plan : IsPlanOf l p) (fits : FitsLimits p counts)
    (h : IsLaidOut p counts q) where
  abbrev pub laid_cells : List Cell
  laid_cells = cells_of p counts (mapped_names p) h.extents

  -- the cell of a number
  abbrev pub home : ℕ → Cell
  home k = merged_cell p (mapped_names p) k (extent_at h.extents k)

  abbrev pub Stands : Cell → Type 0
  Stands c = CellStands (base_of p) (head_size p counts) h.address h.segments h.starts c

  pub extents_many : length h.extents ≡ merged_count p
  extents_many = h.stacked.many ∙ flags_many p

  pub count_is : length (mapped_names p) ≡ length (mapped_of l)
  count_is = ap length (mapped_are l p plan) ∙ length-map (mapped_of l) padded

  pub home_there : (k : ℕ) → k < length h.extents → Contains laid_cells (home k)
  unfolding cells_of
  home_there k low =
      Contains-append_left (map home (range_with_len 0 (length h.extents))) (made_cells p counts (length h.extents)) (home k) (
        k,
        omega (arith, low, length-map-range_with_len home 0 (length h.extents)),
        get_or-map-range_with_len home 0 (length h.extents) k k
            (home k) low (omega arith),
      )

  -- the rank of a cell tells its segment and its class
  pub home_rank : (k : ℕ) (n : List ℕ) → (output_at p k).segment ≡ padded n → IsName n → IsMapped l n
      → ((home k).rank < 9 * length (mapped_names p)) × ((home k).rank / 9 ≡ number_in l n) ×
      ((home k).rank % 9 ≡ class_of (output_at p k) (extent_at h.extents k).flags)
  home_rank k n is name there =
      let number : segment_number (mapped_names p) (output_at p k).segment ≡ number_in l n = ap (segment_number (mapped_names p)) is
      ∙ number_is l p n plan name in
      let small = class_small (output_at p k) (extent_at h.extents k).flags in
      let inside = (mapped_number l n there).0 in
      (omega (arith, number, small, inside, count_is), omega (arith, number, small), omega (arith, small))

  -- all addresses are far below 2^64
  pub address_low : h.address + 2 ^ 14 < 2 ^ 64
  address_low =
      let room = rows_room p counts h.extents fits (omega (arith, h.stacked.within, members-cost-is p)) in
      let all = ranks-cost cell_cost (9 * length (mapped_names p)) laid_cells in
      omega (arith, room, all, h.rows.within)

  pub stands : (c : Cell) → Contains laid_cells c → c.rank < 9 * length (mapped_names p) → Stands c
  stands c there low =
      cell_stands (mapped_names p) laid_cells (base_of p) (head_size p counts)
      (length (mapped_names p)) h.segments h.cells h.address h.offset (length h.extents + 4) h.starts
      h.rows h.have (cells_numbered_apart p counts (mapped_names p) h.extents) c there low

  -- no address of a cell wraps
  pub no_wrap : (c : Cell) (n : ℕ) → Stands c → n ≤ c.size → behind (number_at h.starts c.number) n ≡ number_at h.starts c.number + n
  no_wrap c n s less = mod_small (number_at h.starts c.number + n) (omega (arith, s.high, less, address_low))
    where
      mod_small : (a : ℕ) → a < 2 ^ 64 → a % 2 ^ 64 ≡ a
      mod_small a low = omega arith

  -- where a member stands
  pub record MemberStands (m : PlacedMember) : Type 0 where
    pub in_cell : IsInCell h.extents m
    pub there : Contains laid_cells (home m.member.cell)
    pub rank : (home m.member.cell).rank < 9 * length (mapped_names p)
    pub cell : Stands (home m.member.cell)
    pub plain : behind (number_at h.starts m.member.cell) m.offset ≡ number_at h.starts m.member.cell + m.offset

  member_stands : (n : List ℕ) (k : ℕ) (d : PlacedMember) → k < length h.members → (get_or h.members k d).member.cell < length h.extents
      → (output_at p (get_or h.members k d).member.cell).segment ≡ padded n → IsName n → IsMapped l n → MemberStands (get_or h.members k d)
  member_stands n k d low inside is name there =
      let m : PlacedMember = get_or h.members k d in
      let c = member_in _ _ h.extents h.members h.stacked k d low (omega (arith, inside, h.stacked.many)) in
      let has = home_there m.member.cell inside in
      let rank = (home_rank m.member.cell n is name there).0 in
      let s = stands (home m.member.cell) has rank in
      record { in_cell = c; there = has; rank = rank; cell = s; plain = no_wrap (home m.member.cell) m.offset s (omega (arith, c.ends)) }

  -- a section's cell
  pub section_cell : (s : PlacedSection) (m : PlacedMember) → SectionAt l p h.starts s m
      → (m.member.cell < length h.extents) × (output_at p m.member.cell ≡ output_key l (id_of s))
  section_cell s m at =
      let o = section_output l p (id_of s) plan at.carried in
      let cell : m.member.cell ≡ position_or_len (same_output (output_key l (id_of s))) (section_outputs p) = ap
      (λ (x : Member). x.cell) at.member in
      (omega (arith, cell, o.0, extents_many), ap (output_at p) cell ∙ o.1)

  pub section_there : (s : PlacedSection) (m : PlacedMember) → SectionAt l p h.starts s m
      → IsMapped l (segment_name_of (header_at l (id_of s)))
  section_there s m at = section_mapped l (id_of s) at.carried at.may

  pub section_segment : (s : PlacedSection) (m : PlacedMember) → SectionAt l p h.starts s m → (output_at p m.member.cell).segment ≡ padded
      (segment_name_of (header_at l (id_of s)))
  section_segment s m at = ap (λ (o : OutputName). o.segment) (section_cell s m at).1 ∙ segment_key_is l (id_of s)

  -- the commons' cell
  pub common_cell : (c : PlacedCommon) (m : PlacedMember) → CommonAt l p h.starts c m
      → (m.member.cell < length h.extents) × (output_at p m.member.cell ≡ COMMON_NAME) × IsMapped l DATA
  common_cell c m at =
      let cell : m.member.cell ≡ common_output p = ap (λ (x : Member). x.cell) at.member in
      let some : 0 < length p.commons = omega (arith, at.low, commons_many l p plan) in
      let there : (has_section_in l DATA || not (length (chosen_commons l) == 0)) ≡ true
      = or_right (has_section_in l DATA) (not (length (chosen_commons l) == 0))
      (ap not (ne_eqb (length (chosen_commons l)) 0 (λ e. omega (arith, at.low, e)))) in
      (omega (arith, cell, commons_there p some, extents_many), ap (output_at p) cell ∙ common_output_is p, data_mapped l there)

  sections_stand : All MemberStands (section_members p h.members)
  sections_stand k d low =
      let z = sections_zip l p counts q plan h in
      let all : All (λ m. (s : PlacedSection) × SectionAt l p h.starts s m) (section_members p h.members)
      = zip_right (SectionAt l p h.starts) (λ m. (s : PlacedSection) × SectionAt l p h.starts s m) (λ s m at. (s, at)) q.sections
      (section_members p h.members) z in
      let short : k < length h.members = omega (arith, low, length-take (length p.sections) h.members) in
      let here : get_or (section_members p h.members) k d ≡ get_or h.members k d = get_or-take (length p.sections) h.members k d
      (omega (arith, low, length-take (length p.sections) h.members)) in
      let at = all k d low in
      let cell = ap (λ (m : PlacedMember). m.member.cell) here in
      subst MemberStands (sym here) (member_stands (segment_name_of (header_at l (id_of at.0))) k d short
      (omega (arith, cell, (section_cell at.0 _ at.1).0))
      (ap (λ (n : ℕ). (output_at p n).segment) (sym cell) ∙ section_segment at.0 _ at.1) (name_twice (header_at l (id_of at.0)).segname)
      (section_there at.0 _ at.1))

  commons_stand : All MemberStands (common_members p h.members)
  commons_stand k d low =
      let z = commons_zip l p counts q plan h in
      let all : All (λ m. (c : PlacedCommon) × CommonAt l p h.starts c m) (common_members p h.members)
      = zip_right (CommonAt l p h.starts) (λ m. (c : PlacedCommon) × CommonAt l p h.starts c m) (λ c m at. (c, at)) q.commons
      (common_members p h.members) z in
      let short : length p.sections + k < length h.members = omega (arith, low, length-drop (length p.sections) h.members) in
      let here : get_or (common_members p h.members) k d ≡ get_or h.members (length p.sections + k) d = get_or-drop
      (length p.sections) h.members k d in
      let at = all k d low in
      let cell = ap (λ (m : PlacedMember). m.member.cell) here in
      let c = common_cell at.0 _ at.1 in
      subst MemberStands (sym here) (member_stands DATA (length p.sections + k) d short (omega (arith, cell, c.0))
      (ap (λ (n : ℕ). (output_at p n).segment) (sym cell) ∙ ap (λ (o : OutputName). o.segment) c.1) refl c.2)

  -- all members stand
  pub members_stand : All MemberStands h.members
  members_stand =
      All-same MemberStands h.members (section_members p h.members ++ common_members p h.members)
      (sym (take-append-drop (length p.sections) h.members))
      (All-append MemberStands (section_members p h.members) (common_members p h.members) sections_stand commons_stand)

  pub section_members_stand : All MemberStands (section_members p h.members)
  section_members_stand = sections_stand

  pub common_members_stand : All MemberStands (common_members p h.members)
  common_members_stand = commons_stand
