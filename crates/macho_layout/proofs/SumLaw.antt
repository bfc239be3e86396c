-- The sum of a link's plan is the link's.
--
-- The plan's sections are the carried ones of the link. Two of them have one segment, or one output section, in the plan's
-- tables exactly where their names and types agree, so there are as many segments and output sections. A carried section is placed at
-- the same alignment, and costs the same; the alignment of the template is the greatest of the same sections'. So each term
-- of the sums is the same.
use Rattle.std.proofs.Common.{◌≡◌, ℕ, ◌==◌, ◌&&◌, ◌||◌, not, Bool, true, false, List, [], ◌∷◌, ◌++◌, map, filter, length, length-append, refl, sym, ap, ◌∙◌, arith}
use Rattle.std.specs.List.{list_any, enumerate_from}
use Rattle.std.specs.Str.{bytes_eq}
use Rattle.std.proofs.lemmas.Slice.Eq.{bytes_eq-Decides}
use Rattle.std.proofs.lemmas.List.{length-map}
use Rattle.std.proofs.lemmas.List.Elements.{filter_agree}
use Rattle.std.proofs.lemmas.List.FromFn.{length-enumerate_from}
use Rattle.macho_bytes.specs.Texts.{name_of}
use Rattle.macho_records.specs.declared.segments.SegmentName.{SegmentName}
use Rattle.macho_records.specs.Segments.{name_field}
use Rattle.macho_records.specs.Sections.{type_of, segment_name_of}
use Rattle.macho_model.specs.Links.{Link, SectionId, header_at, carried_of}
use Rattle.macho_model.specs.Resolution.{chosen_commons}
use Rattle.macho_model.specs.Targets.{slots_of}
use Rattle.macho_model.specs.Needs.{distinct}
use Rattle.macho_model.specs.Segments.{PAGEZERO, TEXT, DATA_CONST, DATA, LINKEDIT, is_known_segment, other_segments, has_section_in, segment_names_of, same_key, key_of, list_if, one_if}
use Rattle.macho_layout.specs.declared.spec.SectionSpec.{SectionSpec}
use Rattle.macho_layout.specs.declared.spec.OutputName.{OutputName}
use Rattle.macho_layout.specs.Plans.{Planning, IsPlanOf, spec_of, common_spec_of}
use Rattle.macho_layout.specs.Keys.{padded, same_segment, same_output, segment_key_of, output_key_of, segments_seen, outputs_seen}
use Rattle.macho_layout.specs.Names.{is_other, section_segments, section_outputs, has_segment, has_data, has_data_const, segment_count}
use Rattle.macho_layout.proofs.Named.{fields_agree, distinct_map, distinct_agree}
use Rattle.macho_layout.proofs.Tests.{count_of_names, length-list_if}
use Rattle.macho_bytes.proofs.Comparing.{bytes_turn}
use Rattle.macho_bytes.proofs.Bools.{and_group}
use Rattle.macho_bytes.proofs.Maps.{map_map, filter-map, any_map, any_agree}
use Rattle.macho_model.proofs.Sections.{name_in_field}
use Rattle.macho_model.proofs.Distinct.{any_distinct}

-- the segment and the output section of a carried section, in the tables of a plan
abbrev pub segment_key : Link → SectionId → SegmentName
segment_key l s = segment_key_of (spec_of l s)

abbrev pub output_key : Link → SectionId → OutputName
output_key l s = output_key_of (spec_of l s)

pub twice : (x : List ℕ) → name_of (name_field (name_field x)) ≡ name_of x
twice x = name_in_field (name_field x) ∙ name_in_field x

pub segments_agree : (l : Link) (a b : SectionId) → same_segment (segment_key l a) (segment_key l b)
    ≡ bytes_eq (segment_name_of (header_at l a))
    (segment_name_of (header_at l b))
segments_agree l a b =
    fields_agree (name_field (header_at l a).segname) (name_field (header_at l b).segname)
    ∙ ap (λ (n : List ℕ). bytes_eq n (name_of (name_field (header_at l b).segname))) (name_in_field (header_at l a).segname)
    ∙ ap (bytes_eq (name_of (header_at l a).segname)) (name_in_field (header_at l b).segname)

pub outputs_agree : (l : Link) (a b : SectionId) → same_output (output_key l a) (output_key l b) ≡ same_key (key_of (header_at l a))
    (key_of (header_at l b))
outputs_agree l a b =
    ap (λ (t : Bool). t && (same_segment (output_key l a).name (output_key l b).name && ((output_key l a).kind == (output_key l b).kind)))
    (segments_agree l a b)
    ∙ ap (λ (t : Bool). bytes_eq (segment_name_of (header_at l a)) (segment_name_of (header_at l b))
    && (t && ((output_key l a).kind == (output_key l b).kind)))
    (fields_agree (header_at l a).sectname (header_at l b).sectname)
    ∙ and_group (bytes_eq (segment_name_of (header_at l a)) (segment_name_of (header_at l b))) (bytes_eq (name_of (header_at l a).sectname)
    (name_of (header_at l b).sectname)) (type_of (header_at l a) == type_of (header_at l b))

-- carried sections, one of each segment, and one of each output section
abbrev pub segments_once : Link → List SectionId
segments_once l = distinct (λ a b. bytes_eq (segment_name_of (header_at l a)) (segment_name_of (header_at l b))) (carried_of l)

abbrev pub outputs_once : Link → List SectionId
outputs_once l = distinct (λ a b. same_key (key_of (header_at l a)) (key_of (header_at l b))) (carried_of l)

pub segments_are : (l : Link) (p : Planning) → IsPlanOf l p → section_segments p ≡ map (segment_key l) (segments_once l)
unfolding segments_seen
segments_are l p plan =
    ap (λ (ss : List SectionSpec). distinct same_segment (map segment_key_of ss)) plan.sections
    ∙ ap (distinct same_segment) (map_map segment_key_of (spec_of l) (carried_of l))
    ∙ distinct_map same_segment (segment_key l) (carried_of l)
    ∙ ap (map (segment_key l)) (distinct_agree (λ a b. same_segment (segment_key l a) (segment_key l b))
    (λ a b. bytes_eq (segment_name_of (header_at l a)) (segment_name_of (header_at l b))) (segments_agree l) (carried_of l))

pub outputs_are : (l : Link) (p : Planning) → IsPlanOf l p → section_outputs p ≡ map (output_key l) (outputs_once l)
unfolding outputs_seen
outputs_are l p plan =
    ap (λ (ss : List SectionSpec). distinct same_output (map output_key_of ss)) plan.sections
    ∙ ap (distinct same_output) (map_map output_key_of (spec_of l) (carried_of l))
    ∙ distinct_map same_output (output_key l) (carried_of l)
    ∙ ap (map (output_key l)) (distinct_agree (λ a b. same_output (output_key l a) (output_key l b))
    (λ a b. same_key (key_of (header_at l a)) (key_of (header_at l b))) (outputs_agree l) (carried_of l))

-- other segments
others_many : (l : Link) (p : Planning) → IsPlanOf l p → length (filter is_other (section_segments p)) ≡ length (other_segments l)
unfolding other_segments
others_many l p plan =
    let mine : filter is_other (section_segments p) ≡ map (segment_key l) (filter (λ s. is_other (segment_key l s)) (segments_once l))
    = ap (filter is_other) (segments_are l p plan) ∙ filter-map is_other (segment_key l) (segments_once l) in
    let theirs : filter (λ name. not (is_known_segment name))
    (distinct bytes_eq (map (λ s. segment_name_of (header_at l s)) (carried_of l)))
    ≡ map (λ s. segment_name_of (header_at l s)) (filter (λ s. not (is_known_segment (segment_name_of (header_at l s)))) (segments_once l))
    = ap (filter (λ name. not (is_known_segment name))) (distinct_map bytes_eq (λ s. segment_name_of (header_at l s)) (carried_of l))
    ∙ filter-map (λ name. not (is_known_segment name)) (λ s. segment_name_of (header_at l s)) (segments_once l) in
    let same = filter_agree (λ s. is_other (segment_key l s)) (λ s. not (is_known_segment (segment_name_of (header_at l s))))
    (λ s. ap (λ (n : List ℕ). not (is_known_segment n)) (twice (header_at l s).segname)) (segments_once l) in
    ap length mine ∙ length-map (filter (λ s. is_other (segment_key l s)) (segments_once l)) (segment_key l) ∙ ap length same
    ∙ sym (ap length theirs ∙ length-map (filter (λ s. not (is_known_segment (segment_name_of (header_at l s)))) (segments_once l))
    (λ s. segment_name_of (header_at l s)))

-- whether a segment of a name has sections
pub segment_there : (l : Link) (p : Planning) (name : List ℕ) → IsPlanOf l p → name_of name ≡ name → has_segment p (padded name)
    ≡ has_section_in l name
segment_there l p name plan whole =
    let agree : (s : SectionId) → same_segment (padded name) (segment_key l s) ≡ bytes_eq (segment_name_of (header_at l s)) name
    = λ s. fields_agree name (name_field (header_at l s).segname) ∙ ap
    (λ (n : List ℕ). bytes_eq n (name_of (name_field (header_at l s).segname))) whole
    ∙ ap (bytes_eq name) (name_in_field (header_at l s).segname) ∙ bytes_turn name (segment_name_of (header_at l s)) in
    ap (list_any (same_segment (padded name))) (segments_are l p plan)
    ∙ any_map (same_segment (padded name)) (segment_key l) (segments_once l)
    ∙ any_agree (λ s. same_segment (padded name) (segment_key l s)) (λ s. bytes_eq (segment_name_of (header_at l s)) name) agree
    (segments_once l)
    ∙ any_distinct (λ a b. bytes_eq (segment_name_of (header_at l a)) (segment_name_of (header_at l b)))
    (λ s. bytes_eq (segment_name_of (header_at l s)) name)
    (λ a b t. ap (λ (n : List ℕ). bytes_eq n name) ((bytes_eq-Decides (segment_name_of (header_at l a))
    (segment_name_of (header_at l b))).0 t)) (carried_of l)

pub or_turn : (a b : Bool) → (a || b) ≡ (b || a)
or_turn true true = refl
or_turn true false = refl
or_turn false true = refl
or_turn false false = refl

pub commons_many : (l : Link) (p : Planning) → IsPlanOf l p → length p.commons ≡ length (chosen_commons l)
commons_many l p plan =
    ap length plan.commons ∙ length-map (enumerate_from 0 (chosen_commons l)) (common_spec_of l) ∙ length-enumerate_from 0
    (chosen_commons l)

-- as many segments
pub segments_same : (l : Link) (p : Planning) → IsPlanOf l p → segment_count p ≡ length (segment_names_of l)
unfolding segment_names_of
segments_same l p plan =
    let const : has_data_const p ≡ (has_section_in l DATA_CONST || not (length (slots_of l) == 0))
    = ap (λ (n : ℕ). not (n == 0) || has_segment p (padded DATA_CONST)) (ap length plan.slots)
    ∙ ap (λ (b : Bool). not (length (slots_of l) == 0) || b) (segment_there l p DATA_CONST plan refl) ∙ or_turn
    (not (length (slots_of l) == 0)) (has_section_in l DATA_CONST) in
    let written : has_data p ≡ (has_section_in l DATA || not (length (chosen_commons l) == 0))
    = ap (λ (n : ℕ). not (n == 0) || has_segment p (padded DATA)) (commons_many l p plan)
    ∙ ap (λ (b : Bool). not (length (chosen_commons l) == 0) || b) (segment_there l p DATA plan refl) ∙ or_turn
    (not (length (chosen_commons l) == 0)) (has_section_in l DATA) in
    let a : List (List ℕ) = list_if l.executable (PAGEZERO ∷ []) in
    let b : List (List ℕ) = TEXT ∷ [] in
    let c : List (List ℕ) = list_if (has_section_in l DATA_CONST || not (length (slots_of l) == 0)) (DATA_CONST ∷ []) in
    let d : List (List ℕ) = list_if (has_section_in l DATA || not (length (chosen_commons l) == 0)) (DATA ∷ []) in
    let e : List (List ℕ) = other_segments l in
    let f : List (List ℕ) = LINKEDIT ∷ [] in
    omega (
      arith,
      count_of_names p,
      ap one_if const,
      ap one_if written,
      ap one_if plan.executable,
      others_many l p plan,
      length-append (a ++ b ++ c ++ d ++ e) f,
      length-append (a ++ b ++ c ++ d) e,
      length-append (a ++ b ++ c) d,
      length-append (a ++ b) c,
      length-append a b,
      length-list_if l.executable PAGEZERO,
      length-list_if (has_section_in l DATA_CONST || not (length (slots_of l) == 0)) DATA_CONST,
      length-list_if (has_section_in l DATA || not (length (chosen_commons l) == 0)) DATA,
    )
