-- The parts that are made of a placement are its pieces.
--
-- A section stands beside what the plan says of it, since both have the carried sections in one order. The number of a common is its place
-- in the plan. All else is said by the placement.
use Rattle.std.proofs.Common.{◌≡◌, ℕ, ◌+◌, ◌<◌, List, [], ◌∷◌, ◌++◌, map, length, get_or, sym, ap, ◌∙◌, subst, arith}
use Rattle.std.specs.List.{range_with_len, enumerate_from, Contains}
use Rattle.std.proofs.lemmas.List.{ext_get_or, get_or-map, length-map, map-append, append_assoc}
use Rattle.std.proofs.lemmas.List.Elements.{Contains-get_or}
use Rattle.std.proofs.lemmas.List.FromFn.{map-range_with_len_more, get_or-map-range_with_len, get_or-enumerate_from, get_or-range_with_len, length-range_with_len, length-enumerate_from}
use Rattle.macho_bytes.proofs.Maps.{map_map, map_agree}
use Rattle.macho_model.specs.declared.placed.Counts.{Counts}
use Rattle.macho_model.specs.declared.placed.PlacedSection.{PlacedSection}
use Rattle.macho_model.specs.declared.placed.PlacedCommon.{PlacedCommon}
use Rattle.macho_model.specs.Links.{Link, SectionId, header_at, carried_of}
use Rattle.macho_model.specs.Resolution.{SymbolId, chosen_commons}
use Rattle.macho_model.specs.Placement.{Placed, Piece, IsWholeList, pieces_with, section_piece, common_piece, slot_piece, stub_piece, range_piece, head_size, id_of}
use Rattle.macho_model.proofs.Sections.{carried_is}
use Rattle.macho_layout.specs.declared.spec.SectionSpec.{SectionSpec}
use Rattle.macho_layout.specs.declared.spec.CommonSpec.{CommonSpec}
use Rattle.macho_layout.specs.Members.{template_align}
use Rattle.macho_layout.specs.Plans.{Planning, IsPlanOf, spec_of, common_spec_of}
use Rattle.macho_layout.proofs.CostLaw.{align_same}
use Rattle.macho_placement_rules.specs.declared.parts.Part.{Part}
use Rattle.macho_placement_rules.specs.Parts.{piece_of}
use Rattle.macho_placement_rules.specs.steps.Pieces.{template_exponent_of, section_part, section_parts, common_part, slot_part, stub_part, table_piece, as_part, tables_of, made_parts, no_section, no_spec}

-- one part more of a row of parts
pub one_more_part : (F : ℕ → Part) (old now next : List Part) (n : ℕ) (x : Part) → now ≡ old ++ map F (range_with_len 0 n)
    → next ≡ now ++ x ∷ [] → x ≡ F n → next ≡ old ++ map F (range_with_len 0 (n + 1))
one_more_part F old now next n x before pushed is =
    pushed ∙ ap (λ (ps : List Part). ps ++ x ∷ []) before ∙ append_assoc old (map F (range_with_len 0 n)) (x ∷ [])
    ∙ ap (λ (ps : List Part). old ++ ps) (ap (λ (y : Part). map F (range_with_len 0 n) ++ y ∷ []) is
    ∙ sym (map-range_with_len_more F 0 n n (omega arith)))

module _ (l : Link) (p : Planning) (plan : IsPlanOf l p) (q : Placed) (whole : IsWholeList l q) where
  -- a section beside what the plan says of it
  section_same : (k : ℕ) → k < length q.sections
      → piece_of (section_part (template_exponent_of p.sections) (get_or q.sections k no_section) (get_or p.sections k no_spec))
      ≡ section_piece l (get_or q.sections k no_section)
  unfolding template_align
  section_same k low =
      let s : PlacedSection = get_or q.sections k no_section in
      let long : length q.sections ≡ length (carried_of l) = sym (length-map q.sections id_of) ∙ ap length whole.sections in
      let here : id_of s ≡ get_or (carried_of l) k (id_of no_section)
      = sym (get_or-map id_of q.sections k no_section (id_of no_section) low)
      ∙ ap (λ (ids : List SectionId). get_or ids k (id_of no_section)) whole.sections in
      let told : get_or p.sections k no_spec ≡ spec_of l (id_of s)
      = ap (λ (ss : List SectionSpec). get_or ss k no_spec) plan.sections
      ∙ get_or-map (spec_of l) (carried_of l) k (id_of no_section) no_spec (omega arith) ∙ ap (spec_of l) (sym here) in
      let carried = carried_is l (id_of s) (subst (λ (i : SectionId). Contains (carried_of l) i) (sym here)
      (Contains-get_or (carried_of l) k (id_of no_section) (omega arith))) in
      ap (λ (t : SectionSpec). piece_of (section_part (template_exponent_of p.sections) s t)) told
      ∙ ap (λ (e : ℕ). record { start = s.address; size = (header_at l (id_of s)).size; exponent = e })
      (align_same l p (id_of s) plan carried)

  -- the sections
  sections_same : map piece_of (section_parts (template_exponent_of p.sections) p.sections q.sections) ≡ map (section_piece l) q.sections
  sections_same =
      let F : ℕ → Part
      = λ k. section_part (template_exponent_of p.sections) (get_or q.sections k no_section) (get_or p.sections k no_spec) in
      let none : Piece = record { start = 0; size = 0; exponent = 0 } in
      let n : ℕ = length q.sections in
      map_map piece_of F (range_with_len 0 n)
      ∙ ext_get_or none (map (λ k. piece_of (F k)) (range_with_len 0 n)) (map (section_piece l) q.sections)
      (omega (
        arith,
        length-map (range_with_len 0 n) (λ k. piece_of (F k)),
        length-range_with_len 0 n,
        length-map q.sections
            (section_piece l),
      ))
      (λ k low.
      let within : k < n = omega (arith, low, length-map (range_with_len 0 n) (λ k. piece_of (F k)), length-range_with_len 0 n) in
      get_or-map-range_with_len (λ k. piece_of (F k)) 0 n k k none within (omega arith) ∙ section_same k within
      ∙ sym (get_or-map (section_piece l) q.sections k no_section none within))

  -- a common at its number in the plan
  pub common_same : (k : ℕ) (d : PlacedCommon) → k < length q.commons
      → piece_of (common_part p.commons (get_or q.commons k d)) ≡ common_piece l (get_or q.commons k d)
  common_same k d low =
      let c : PlacedCommon = get_or q.commons k d in
      let n : ℕ = length (chosen_commons l) in
      let none : SymbolId = record { file = 0; symbol = 0 } in
      let long : length q.commons ≡ n
      = sym (length-map q.commons (λ c. c.id)) ∙ ap length whole.commons ∙ length-range_with_len 0 n in
      let number : c.id ≡ k = sym (get_or-map (λ (c : PlacedCommon). c.id) q.commons k d 0 low)
      ∙ ap (λ (ids : List ℕ). get_or ids k 0) whole.commons ∙ get_or-range_with_len 0 n k 0 (omega arith)
      ∙ omega arith in
      let told : get_or p.commons c.id (record { id = 0; size = 0; align = 0 })
      ≡ common_spec_of l (c.id, get_or (chosen_commons l) c.id none)
      = ap (λ (cs : List CommonSpec). get_or cs c.id (record { id = 0; size = 0; align = 0 })) plan.commons
      ∙ get_or-map (common_spec_of l) (enumerate_from 0 (chosen_commons l)) c.id (0, none) (record { id = 0; size = 0; align = 0 })
      (omega (arith, length-enumerate_from 0 (chosen_commons l)))
      ∙ ap (common_spec_of l) (get_or-enumerate_from 0 (chosen_commons l) c.id (0, none) (omega arith))
      ∙ ap (λ (i : ℕ). common_spec_of l (i, get_or (chosen_commons l) c.id none)) (omega arith) in
      ap (λ (s : CommonSpec). record { start = c.address; size = s.size; exponent = s.align }) told

  -- all parts
  pub made_is : (counts : Counts) → map piece_of (made_parts counts q p.sections p.commons) ≡ pieces_with l counts q q.sections
  unfolding made_parts pieces_with
  made_is counts =
      let S : List Part = section_parts (template_exponent_of p.sections) p.sections q.sections in
      let C : List Part = map (common_part p.commons) q.commons in
      let G : List Part = map slot_part q.slots in
      let B : List Part = map stub_part q.stubs in
      let J : List Part = as_part (range_piece 0 q.init_offsets) ∷ as_part (range_piece 0 q.unwind)
      ∷ map (λ r. as_part (table_piece q.segments r)) (tables_of q.linkedit) in
      let c : map piece_of C ≡ map (common_piece l) q.commons = map_map piece_of (common_part p.commons) q.commons
      ∙ map_agree (λ x. piece_of (common_part p.commons x)) (common_piece l) q.commons common_same in
      let g : map piece_of G ≡ map slot_piece q.slots = map_map piece_of slot_part q.slots in
      let b : map piece_of B ≡ map stub_piece q.stubs = map_map piece_of stub_part q.stubs in
      ap (λ (xs : List Piece). record { start = q.base; size = head_size counts q; exponent = 0 } ∷ xs)
      (map-append piece_of (S ++ C ++ G ++ B) J ∙ ap (λ (xs : List Piece). xs ++ map piece_of J)
      (map-append piece_of (S ++ C ++ G) B ∙ ap (λ (xs : List Piece). xs ++ map piece_of B)
      (map-append piece_of (S ++ C) G ∙ ap (λ (xs : List Piece). xs ++ map piece_of G)
      (map-append piece_of S C ∙ ap (λ (xs : List Piece). xs ++ map piece_of C) sections_same
      ∙ ap (λ (xs : List Piece). map (section_piece l) q.sections ++ xs) c)
      ∙ ap (λ (xs : List Piece). map (section_piece l) q.sections ++ map (common_piece l) q.commons ++ xs) g)
      ∙ ap (λ (xs : List Piece). map (section_piece l) q.sections ++ map (common_piece l) q.commons ++ map slot_piece q.slots ++ xs) b))

-- the parts that were made, where the plan's lists are these
pub made_from : (l : Link) (p : Planning) (counts : Counts) (q : Placed) (sections : List SectionSpec) (commons : List CommonSpec)
    (parts : List Part) → IsPlanOf l p → p.sections ≡ sections → p.commons ≡ commons → IsWholeList l q
    → parts ≡ made_parts counts q sections commons → map piece_of parts ≡ pieces_with l counts q q.sections
made_from l p counts q sections commons parts plan those these whole made =
    ap (map piece_of) (made ∙ ap (λ (ss : List SectionSpec). made_parts counts q ss commons) (sym those)
    ∙ ap (λ (cs : List CommonSpec). made_parts counts q p.sections cs) (sym these)) ∙ made_is l p plan q whole counts
