-- The thread-local template by what a plan says.
--
-- A section of the placement is carried, so it is of the template exactly where its type says so, and the plan says its type. So the link
-- has a section of the template exactly where the plan has one. The parts are the head, the sections and the rest; without the sections of
-- the template they are the head, the other sections and the same rest.
use Rattle.std.proofs.Common.{◌≡◌, ℕ, ◌+◌, ◌≤◌, ◌&&◌, Bool, true, false, Option, Some, None, List, [], ◌∷◌, ◌++◌, All, Contains, map, filter, not, take, drop, length, get_or, refl, sym, ap, ◌∙◌, subst, arith}
use Rattle.std.specs.List.{list_any}
use Rattle.std.specs.Bool.{OnTrue}
use Rattle.std.proofs.lemmas.Bool.{false≢true, OnTrue_from}
use Rattle.std.proofs.lemmas.List.{append_assoc, length-map, take-map, drop-map}
use Rattle.std.proofs.lemmas.List.Elements.{All-map, All-append, Contains-get_or}
use Rattle.std.proofs.lemmas.List.Folds.{list_any-from_Any}
use Rattle.std.proofs.Math.Seq.{drop-append_seam}
use Rattle.macho_bytes.proofs.Bools.{false_of_not}
use Rattle.macho_bytes.proofs.Maps.{map_map, any_map, filter-none}
use Rattle.macho_bytes.proofs.Members.{contains_all, all_contains, contains_filter, filter_contains, any_contains, all_left, all_right, all_unmap}
use Rattle.macho_records.specs.Sections.{is_template_type, type_of}
use Rattle.macho_model.specs.declared.placed.Counts.{Counts}
use Rattle.macho_model.specs.declared.placed.PlacedSection.{PlacedSection}
use Rattle.macho_model.specs.declared.placed.Range64.{Range64}
use Rattle.macho_model.specs.Links.{Link, header_at, carried_of, is_carried, is_template}
use Rattle.macho_model.specs.Placement.{Placed, Piece, AreApart, HoldsTemplate, TemplateHolds, pieces_with, section_piece, common_piece, slot_piece, stub_piece, range_piece, mapped_table, linkedit_ranges, head_size, template_sections, end_of_piece, id_of}
use Rattle.macho_layout.specs.declared.spec.SectionSpec.{SectionSpec}
use Rattle.macho_layout.specs.Members.{type_of_spec}
use Rattle.macho_layout.specs.Plans.{spec_of}
use Rattle.macho_placement_rules.specs.declared.parts.Part.{Part}
use Rattle.macho_placement_rules.specs.Parts.{piece_of}
use Rattle.macho_placement_rules.specs.steps.Template.{Suits, SuitsEach, SuitsAll}
use Rattle.macho_placement_rules.specs.steps.Pieces.{no_spec}
use Rattle.macho_placement_rules.proofs.Told.{spec_told, carried_told}

-- five lists, grouped from the left or from the right
grouped : {X : Type 0} (a b c d e : List X) → (((a ++ b) ++ c) ++ d) ++ e ≡ a ++ (b ++ (c ++ (d ++ e)))
grouped a b c d e =
    append_assoc ((a ++ b) ++ c) d e ∙ append_assoc (a ++ b) c (d ++ e) ∙ append_assoc a b (c ++ (d ++ e))

-- the first of some parts, and those behind the next n
pub first_part : (parts : List Part) (head : Piece) (rest : List Piece) → map piece_of parts ≡ head ∷ rest
    → map piece_of (take 1 parts) ≡ head ∷ []
first_part parts head rest is = sym (take-map piece_of 1 parts) ∙ ap (take 1) is

pub later_parts : (parts : List Part) (head : Piece) (middle rest : List Piece) (n : ℕ) → map piece_of parts ≡ head ∷ (middle ++ rest)
    → length middle ≡ n → map piece_of (drop (1 + n) parts) ≡ rest
later_parts parts head middle rest n is long =
    let past : 1 + n ≡ length (head ∷ middle) = omega (arith, long) in
    sym (drop-map piece_of (1 + n) parts) ∙ ap (drop (1 + n)) is
    ∙ ap (λ (k : ℕ). drop k (head ∷ (middle ++ rest))) past ∙ drop-append_seam (head ∷ middle) rest

module _ (l : Link) (specs : List SectionSpec) (qs : List PlacedSection) (told : specs ≡ map (spec_of l) (carried_of l))
    (ids : map id_of qs ≡ carried_of l) where
  abbrev Is : PlacedSection → Bool
  Is q = is_template (header_at l (id_of q))

  abbrev Says : PlacedSection → Bool
  Says q = is_template_type (type_of (header_at l (id_of q)))

  is_what_it_says : (q : PlacedSection) → Contains qs q → Is q ≡ Says q
  is_what_it_says q has =
      ap (λ (b : Bool). b && Says q) (subst (λ (x : PlacedSection). is_carried (header_at l (id_of x)) ≡ true) has.2
      (carried_told l specs qs told ids has.0 q has.1))

  any_told : list_any (λ s. is_template_type (type_of_spec s)) specs ≡ list_any Says qs
  any_told =
      let all : specs ≡ map (λ q. spec_of l (id_of q)) qs
      = told ∙ ap (map (spec_of l)) (sym ids) ∙ map_map (spec_of l) id_of qs in
      ap (list_any (λ s. is_template_type (type_of_spec s))) all
      ∙ any_map (λ s. is_template_type (type_of_spec s)) (λ q. spec_of l (id_of q)) qs

  pub some_told : list_any (λ s. is_template_type (type_of_spec s)) specs ≡ true → 1 ≤ length (filter Is qs)
  some_told some =
      let one = any_contains Says qs (sym any_told ∙ some) in
      let in_it : Contains (filter Is qs) one.0 = contains_filter Is qs one.0 one.1 (is_what_it_says one.0 one.1 ∙ one.2) in
      omega (arith, in_it.1)

  pub none_told : list_any (λ s. is_template_type (type_of_spec s)) specs ≡ false → filter Is qs ≡ []
  none_told none = filter-none Is qs (contains_all (λ (q : PlacedSection). Is q ≡ false) qs (λ q has. by q has (Says q) refl))
    where
      by : (q : PlacedSection) → Contains qs q → (b : Bool) → Says q ≡ b → Is q ≡ false
      by q has true is = absurd (false≢true (sym none ∙ any_told ∙ list_any-from_Any Says qs (has.0, q, has.1, has.2, is)))
      by q has false is = is_what_it_says q has ∙ is

  -- a range suits each section of the plan exactly where it suits each of the link
  suits_in : (r : Range64) → SuitsEach r qs specs → (q : PlacedSection) → Contains qs q → Suits r q (spec_of l (id_of q))
  suits_in r each q has =
      subst (λ (x : PlacedSection). Suits r x (spec_of l (id_of x))) has.2
      (subst (λ (s : SectionSpec). Suits r (get_or qs has.0 q) s) (spec_told l specs qs told ids has.0 q no_spec has.1)
      (each has.0 q no_spec has.1))

  in_suits : (r : Range64) → ((q : PlacedSection) → Contains qs q → Suits r q (spec_of l (id_of q))) → SuitsEach r qs specs
  in_suits r all = λ k d e low.
      subst (λ (s : SectionSpec). Suits r (get_or qs k d) s) (sym (spec_told l specs qs told ids k d e low))
      (all (get_or qs k d) (Contains-get_or qs k d low))

-- a test that fails
not_false : (b : Bool) → b ≡ false → not b ≡ true
not_false b is = ap not is

module _ (l : Link) (counts : Counts) (specs : List SectionSpec) (p : Placed) (told : specs ≡ map (spec_of l) (carried_of l))
    (ids : map id_of p.sections ≡ carried_of l) (parts : List Part) (made : map piece_of parts ≡ pieces_with l counts p p.sections) where
  abbrev Of : PlacedSection → Bool
  Of q = is_template (header_at l (id_of q))

  abbrev head : Piece
  head = record { start = p.base; size = head_size counts p; exponent = 0 }

  abbrev rest : List Piece
  rest =
      map (common_piece l) p.commons ++ (map slot_piece p.slots ++ (map stub_piece p.stubs
      ++ (range_piece 0 p.init_offsets ∷ range_piece 0 p.unwind ∷ map (mapped_table p) (linkedit_ranges p))))

  pieces_are : (qs : List PlacedSection) → pieces_with l counts p qs ≡ head ∷ (map (section_piece l) qs ++ rest)
  unfolding pieces_with
  pieces_are qs = ap (λ (xs : List Piece). head ∷ xs) (grouped (map (section_piece l) qs) (map (common_piece l) p.commons)
      (map slot_piece p.slots) (map stub_piece p.stubs)
      (range_piece 0 p.init_offsets ∷ range_piece 0 p.unwind ∷ map (mapped_table p) (linkedit_ranges p)))

  parts_are : map piece_of parts ≡ head ∷ (map (section_piece l) p.sections ++ rest)
  parts_are = made ∙ pieces_are p.sections

  first_is : map piece_of (take 1 parts) ≡ head ∷ []
  first_is = first_part parts head (map (section_piece l) p.sections ++ rest) parts_are

  rest_is : map piece_of (drop (1 + length p.sections) parts) ≡ rest
  rest_is = later_parts parts head (map (section_piece l) p.sections) rest (length p.sections) parts_are
      (length-map p.sections (section_piece l))

  -- all parts but those of the template, apart from a range
  apart_from : (r : Range64) → SuitsAll r p.sections specs parts
      → All (AreApart (range_piece 0 r)) (pieces_with l counts p (filter (λ q. not (Of q)) p.sections))
  apart_from r suits =
      let R : Piece → Type 0 = AreApart (range_piece 0 r) in
      let others : List PlacedSection = filter (λ q. not (Of q)) p.sections in
      subst (All R) (sym (pieces_are others))
      (All-append R (head ∷ []) (map (section_piece l) others ++ rest) (subst (All R) first_is suits.head)
      (All-append R (map (section_piece l) others) rest
      (All-map R (section_piece l) others (contains_all (λ (q : PlacedSection). R (section_piece l q)) others
      (λ q has.
      let in_all = filter_contains (λ (x : PlacedSection). not (Of x)) p.sections q has in
      (suits_in l specs p.sections told ids r suits.each q in_all.0).apart
      (sym (is_what_it_says l specs p.sections told ids q in_all.0) ∙ false_of_not (Of q) in_all.1))))
      (subst (All R) rest_is suits.rest)))

  pub holds_template : (r : Range64) → list_any (λ s. is_template_type (type_of_spec s)) specs ≡ true
      → SuitsAll r p.sections specs parts → HoldsTemplate l counts p r
  holds_template r some suits =
      record {
        some = some_told l specs p.sections told ids some;
        holds = contains_all (λ (q : PlacedSection). (r.start ≤ q.address) × (end_of_piece (section_piece l q) ≤ r.end))
            (template_sections l p)
            (λ q has.
            let in_all = filter_contains Of p.sections q has in
            (suits_in l specs p.sections told ids r suits.each q in_all.0).holds
            (sym (is_what_it_says l specs p.sections told ids q in_all.0) ∙ in_all.1));
        apart = apart_from r suits;
      }

  pub template_suits : (r : Range64) → HoldsTemplate l counts p r → SuitsAll r p.sections specs parts
  template_suits r holds =
      let R : Piece → Type 0 = AreApart (range_piece 0 r) in
      let others : List PlacedSection = filter (λ q. not (Of q)) p.sections in
      let all : All R (head ∷ (map (section_piece l) others ++ rest)) = subst (All R) (pieces_are others) holds.apart in
      let behind : All R (map (section_piece l) others ++ rest) = all_right R (head ∷ []) (map (section_piece l) others ++ rest) all in
      record {
        each = in_suits l specs p.sections told ids r (λ q has. record {
          holds = λ is. all_contains (λ (q : PlacedSection). (r.start ≤ q.address) × (end_of_piece (section_piece l q) ≤ r.end))
              (template_sections l p) q holds.holds
              (contains_filter Of p.sections q has (is_what_it_says l specs p.sections told ids q has ∙ is));
          apart = λ is. all_contains (λ (q : PlacedSection). R (section_piece l q)) others q
              (all_unmap R (section_piece l) others (all_left R (map (section_piece l) others) rest behind))
              (contains_filter (λ (q : PlacedSection). not (Of q)) p.sections q has
              (not_false (Of q) (is_what_it_says l specs p.sections told ids q has ∙ is)));
        });
        head = subst (All R) (sym first_is) (all_left R (head ∷ []) (map (section_piece l) others ++ rest) all);
        rest = subst (All R) (sym rest_is) (all_right R (map (section_piece l) others) rest behind);
      }

  -- so the template holds, told or not
  abbrev Plans : Bool
  Plans = list_any (λ s. is_template_type (type_of_spec s)) specs

  pub untold : (t : Option Range64) (b : Bool) → t ≡ None → b ≡ Plans → OnTrue (not b) (TemplateHolds l counts p t)
  untold t b is same = OnTrue_from (not b) (TemplateHolds l counts p t) (λ fails.
      subst (TemplateHolds l counts p) (sym is) (none_told l specs p.sections told ids (sym same ∙ false_of_not b fails)))

  pub none_planned : (t : Option Range64) (b : Bool) → t ≡ None → b ≡ Plans → TemplateHolds l counts p t → not b ≡ true
  none_planned t b is same holds = by b refl
    where
      by : (x : Bool) → b ≡ x → not b ≡ true
      by true does =
          let none : template_sections l p ≡ [] = subst (TemplateHolds l counts p) is holds in
          let some = some_told l specs p.sections told ids (sym same ∙ does) in
          absurd (omega (arith, some, ap length none))
      by false isnt = not_false b isnt

  pub some_planned : (t : Option Range64) (r : Range64) (b : Bool) → t ≡ Some r → b ≡ Plans → TemplateHolds l counts p t → b ≡ true
  some_planned t r b is same holds = by b refl
    where
      by : (x : Bool) → b ≡ x → b ≡ true
      by true does = does
      by false isnt =
          let one : HoldsTemplate l counts p r = subst (TemplateHolds l counts p) is holds in
          absurd (omega (arith, one.some, ap length (none_told l specs p.sections told ids (sym same ∙ isnt))))

  pub ranged : (t : Option Range64) (r : Range64) (qs : List PlacedSection) → t ≡ Some r → qs ≡ p.sections → Plans ≡ true
      → SuitsAll r qs specs parts → TemplateHolds l counts p t
  ranged t r qs is same some suits =
      subst (TemplateHolds l counts p) (sym is)
      (holds_template r some (subst (λ (xs : List PlacedSection). SuitsAll r xs specs parts) same suits))

  pub suited : (t : Option Range64) (r : Range64) (qs : List PlacedSection) → t ≡ Some r → qs ≡ p.sections
      → TemplateHolds l counts p t → SuitsAll r qs specs parts
  suited t r qs is same holds =
      subst (λ (xs : List PlacedSection). SuitsAll r xs specs parts) (sym same)
      (template_suits r (subst (TemplateHolds l counts p) is holds))
