-- What a plan says of a section is what the link says of it.
--
-- The placement has the carried sections in their order, and so has the plan. So the plan's section of a number is that of the placement's
-- section of this number: its segment's name is the same with zeros behind it, and its flags and its size are the same. What a segment
-- holds of the one it holds of the other.
use Rattle.std.proofs.Common.{◌≡◌, ℕ, ◌<◌, true, List, All, Contains, map, length, get_or, sym, ap, ◌∙◌, subst, arith}
use Rattle.std.specs.Str.{bytes_eq}
use Rattle.std.proofs.lemmas.List.{get_or-map, length-map}
use Rattle.std.proofs.lemmas.List.Elements.{Contains-get_or}
use Rattle.macho_records.specs.Segments.{text_of}
use Rattle.macho_model.specs.declared.placed.PlacedSegment.{PlacedSegment}
use Rattle.macho_model.specs.declared.placed.PlacedSection.{PlacedSection}
use Rattle.macho_model.specs.Links.{Link, SectionId, header_at, carried_of, is_carried}
use Rattle.macho_model.specs.Placement.{Placed, SectionLies, id_of}
use Rattle.macho_model.proofs.Sections.{carried_is, name_in_field}
use Rattle.macho_layout.specs.declared.spec.SectionSpec.{SectionSpec}
use Rattle.macho_layout.specs.Plans.{spec_of}
use Rattle.macho_placement_rules.specs.steps.Lying.{HoldsSection, HoldEach}
use Rattle.macho_placement_rules.specs.steps.Pieces.{no_section, no_spec}

module _ (l : Link) (specs : List SectionSpec) (qs : List PlacedSection) (told : specs ≡ map (spec_of l) (carried_of l))
    (ids : map id_of qs ≡ carried_of l) where
  pub as_many : length qs ≡ length (carried_of l)
  as_many = sym (length-map qs id_of) ∙ ap length ids

  id_told : (k : ℕ) (d : PlacedSection) (e : SectionId) → k < length qs → id_of (get_or qs k d) ≡ get_or (carried_of l) k e
  id_told k d e low =
      sym (get_or-map id_of qs k d e low) ∙ ap (λ (is : List SectionId). get_or is k e) ids

  -- the plan's section of a number
  pub spec_told : (k : ℕ) (d : PlacedSection) (e : SectionSpec) → k < length qs → get_or specs k e ≡ spec_of l (id_of (get_or qs k d))
  spec_told k d e low =
      ap (λ (ss : List SectionSpec). get_or ss k e) told
      ∙ get_or-map (spec_of l) (carried_of l) k (id_of no_section) e (omega (arith, as_many))
      ∙ ap (spec_of l) (sym (id_told k d (id_of no_section) low))

  -- each section of the placement is carried
  pub carried_told : (k : ℕ) (d : PlacedSection) → k < length qs → is_carried (header_at l (id_of (get_or qs k d))) ≡ true
  carried_told k d low =
      carried_is l (id_of (get_or qs k d)) (subst (λ (i : SectionId). Contains (carried_of l) i) (sym (id_told k d (id_of no_section) low))
      (Contains-get_or (carried_of l) k (id_of no_section) (omega (arith, as_many))))

-- a section that a segment holds by what the link says
section_lies_is : (l : Link) (p : Placed) (q : PlacedSection) → HoldsSection p.segments q (spec_of l (id_of q)) → SectionLies l p q
section_lies_is l p q holds = (
  holds.0,
  holds.1,
  ap (bytes_eq (text_of holds.0.name)) (sym (name_in_field (header_at l (id_of q)).segname)) ∙ holds.2,
  holds.3,
)

lies_section_is : (l : Link) (p : Placed) (q : PlacedSection) → SectionLies l p q → HoldsSection p.segments q (spec_of l (id_of q))
lies_section_is l p q lies = (
  lies.0,
  lies.1,
  ap (bytes_eq (text_of lies.0.name)) (name_in_field (header_at l (id_of q)).segname) ∙ lies.2,
  lies.3,
)

module _ (l : Link) (specs : List SectionSpec) (p : Placed) (told : specs ≡ map (spec_of l) (carried_of l))
    (ids : map id_of p.sections ≡ carried_of l) (gs : List PlacedSegment) (qs : List PlacedSection) (these : gs ≡ p.segments)
    (those : qs ≡ p.sections) where
  pub sections_held : HoldEach gs qs specs → All (SectionLies l p) p.sections
  sections_held each = λ k d low.
      let q : PlacedSection = get_or p.sections k d in
      section_lies_is l p q
      (subst (λ (s : SectionSpec). HoldsSection p.segments q s) (spec_told l specs p.sections told ids k d no_spec low)
      (subst (λ (ss : List PlacedSegment). HoldsSection ss q (get_or specs k no_spec)) these
      (subst (λ (xs : List PlacedSection). HoldEach gs xs specs) those each k d no_spec low)))

  pub held_sections : All (SectionLies l p) p.sections → HoldEach gs qs specs
  held_sections all =
      let mine : HoldEach p.segments p.sections specs
      = λ k d e low. subst (λ (s : SectionSpec). HoldsSection p.segments (get_or p.sections k d) s)
      (sym (spec_told l specs p.sections told ids k d e low)) (lies_section_is l p (get_or p.sections k d) (all k d low)) in
      subst (λ (xs : List PlacedSection). HoldEach gs xs specs) (sym those)
      (subst (λ (ss : List PlacedSegment). HoldEach ss p.sections specs) (sym these) mine)
