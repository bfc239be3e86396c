-- The section headers of a file tell the range of the template.
--
-- The headers of the template are those of its output sections. Each is around placed sections of the template, which the range
-- holds; so it is in the range. The section that begins the range is in one of them, which begins with it, and the one that ends the
-- range is in one that ends with it. So they fill the range.
use Rattle.std.proofs.Common.{◌≡◌, ◌≤◌, ◌==◌, ◌&&◌, not, Bool, true, false, List, [], ◌∷◌, ◌++◌, map, filter, length, get_or, refl, sym, ap, subst, ◌∙◌, arith, inl, inr, All, Option, Some, None}
use Rattle.std.specs.Prelude.{Contains, MatchOption}
use Rattle.std.specs.Str.{bytes_eq}
use Rattle.std.proofs.lemmas.Bool.{cases_Bool, and_from, and_parts, or_cases, or_left, true≢false}
use Rattle.std.proofs.lemmas.List.{append-nil, get_or_default}
use Rattle.std.proofs.lemmas.List.Elements.{All-contains, Contains-append_left, Contains-append_right}
use Rattle.std.proofs.lemmas.List.Folds.{list_any_at}
use Rattle.std.proofs.lemmas.Slice.Eq.{bytes_eq-Decides}
use Rattle.macho_records.specs.Sections.{type_of, is_template_type, segment_name_of}
use Rattle.macho_records.specs.Symbols.{common_exponent_of}
use Rattle.macho_records.specs.declared.header.SectionHeader.{SectionHeader}
use Rattle.macho_records.specs.declared.constants.TheConstants.{S_THREAD_LOCAL_REGULAR, S_THREAD_LOCAL_ZEROFILL}
use Rattle.macho_model.specs.declared.placed.Counts.{Counts}
use Rattle.macho_model.specs.declared.placed.Range64.{Range64}
use Rattle.macho_model.specs.declared.placed.PlacedCommon.{PlacedCommon}
use Rattle.macho_model.specs.declared.placed.PlacedSection.{PlacedSection}
use Rattle.macho_model.specs.Links.{Link, SectionId, header_at, carried_of, sections_of, is_carried, is_template, placed_exponent}
use Rattle.macho_model.specs.Resolution.{entry_at, chosen_commons}
use Rattle.macho_model.specs.Segments.{DATA, OutputKey, same_key, key_of, common_key, output_keys_of, has_section_in, segment_names_of, list_if}
use Rattle.macho_model.specs.Placement.{Placed, id_of, common_of, template_sections, Piece, end_of_piece}
use Rattle.macho_model.specs.Spans.{section_span, common_span, piece, StandInOrder}
use Rattle.macho_model.specs.steps.Parts.{HoldsSpan, HoldsTemplate, TemplateHolds}
use Rattle.macho_model.specs.steps.Outputs.{OutputSection, Merged, placed_members, pieces_of, output_header, output_sections_in, output_sections_of, output_sections_for, merged_in, sections_of_data}
use Rattle.macho_model.specs.OutputSections.{is_zeros}
use Rattle.macho_model.specs.steps.Least.{AreLeast}
use Rattle.macho_model.specs.Made.{template_headers, FillTemplate}
use Rattle.macho_model.specs.Grammar.{ObjectsAreRead}
use Rattle.macho_image_laws.specs.Template.{TemplateIsTight, HeadersTellTemplate}
use Rattle.macho_image_laws.proofs.TemplateRange.{IsWithin, IsAround, is_around, fills}
use Rattle.macho_image_laws.proofs.TemplateKeys.{same_is, is_template_output, template_key, IsTemplateKey, is_template_key, section_key, IsTemplateOf, each_template}
use Rattle.macho_image_laws.proofs.TemplateRow.{has_data, no_elements, data_named, templates_in_order}
use Rattle.macho_model.proofs.Parts.{template_of, order_of}
use Rattle.macho_model.proofs.Outputs.{least_of, headers_same}
use Rattle.macho_model.proofs.Sections.{same_key_itself}
use Rattle.macho_bytes.proofs.Members.{nil_contains, contains_map, map_contains, contains_filter, filter_contains, contains_flat_map, flat_map_contains}
use Rattle.macho_bytes.proofs.Maps.{filter_of_map}

-- the pieces of a key of the template are its placed sections
abbrev piece_at : Link → PlacedSection → Piece
piece_at l q = piece (placed_exponent l (id_of q)) (section_span l q)

not_common : (key : OutputKey) → is_template_type key.type ≡ true → same_key common_key key ≡ false
not_common key type = elim (cases_Bool (same_key common_key key)) [
  | inl same ↦ absurd (true≢false (sym type ∙ ap (λ (k : OutputKey). is_template_type k.type) (sym (same_is common_key key same))))
  | inr other ↦ other
]

pieces_are : (l : Link) (p : Placed) (key : OutputKey) → is_template_type key.type ≡ true
    → pieces_of l p (Merged key) ≡ map (piece_at l) (placed_members l p key)
unfolding pieces_of
pieces_are l p key type =
    ap (λ (b : Bool). map (piece_at l) (placed_members l p key)
    ++ list_if b (map (λ (c : PlacedCommon). piece (common_exponent_of (entry_at l (common_of l c.id))) (common_span l c)) p.commons))
    (not_common key type) ∙ append-nil (map (piece_at l) (placed_members l p key))

-- which are placed sections of the template, and there is one
placed_template : (l : Link) (counts : Counts) (p : Placed) (key : OutputKey) (q : PlacedSection) → StandInOrder l counts p
    → is_template_type key.type ≡ true → Contains (placed_members l p key) q → Contains (template_sections l p) q
unfolding carried_of
placed_template l counts p key q order type there =
    let f = filter_contains (λ (x : PlacedSection). same_key (key_of (header_at l (id_of x))) key) p.sections q there in
    let of_type : is_template_type (type_of (header_at l (id_of q))) ≡ true
    = ap (λ (k : OutputKey). is_template_type k.type) (same_is (key_of (header_at l (id_of q))) key f.1) ∙ type in
    let listed = subst (λ (ss : List SectionId). Contains ss (id_of q)) order.sections (contains_map id_of p.sections q f.0) in
    let carried = (filter_contains (λ (t : SectionId). is_carried (header_at l t)) (sections_of l) (id_of q) listed).1 in
    contains_filter (λ (x : PlacedSection). is_template (header_at l (id_of x))) p.sections q f.0
    (and_from (is_carried (header_at l (id_of q))) (is_template_type (type_of (header_at l (id_of q)))) carried of_type)

a_member : (l : Link) (counts : Counts) (p : Placed) (key : OutputKey) → StandInOrder l counts p → IsTemplateKey l key
    → (q : PlacedSection) × Contains (placed_members l p key) q
a_member l counts p key order k =
    let listed = subst (λ (ss : List SectionId). Contains ss k.section) (sym order.sections) k.carried in
    let m = map_contains id_of p.sections k.section listed in (
      m.0,
      contains_filter (λ (x : PlacedSection). same_key (key_of (header_at l (id_of x))) key) p.sections m.0 m.1
          (ap (λ (a : OutputKey). same_key a key) (ap (λ (s : SectionId). key_of (header_at l s)) m.2 ∙ k.is) ∙ same_key_itself key),
    )

-- the piece around a key's sections, of which one is given
around_key : (l : Link) (counts : Counts) (p : Placed) (r : Range64) (key : OutputKey) (q : PlacedSection) → StandInOrder l counts p
    → HoldsTemplate l counts p r → is_template_type key.type ≡ true → Contains (placed_members l p key) q
    → IsAround (pieces_of l p (Merged key)) (piece_at l q) r.start r.end
around_key l counts p r key q order holds type there =
    let are = pieces_are l p key type in
    is_around (pieces_of l p (Merged key)) (piece_at l q) r.start r.end
    (subst (λ (cs : List Piece). Contains cs (piece_at l q)) (sym are) (contains_map (piece_at l) (placed_members l p key) q there))
    (λ d one.
    let m = map_contains (piece_at l) (placed_members l p key) d (subst (λ (cs : List Piece). Contains cs d) are one) in
    let held = All-contains (λ (x : PlacedSection). HoldsSpan r (section_span l x)) (template_sections l p) m.0 holds.holds
    (placed_template l counts p key m.0 order type m.1) in
    subst (λ (c : Piece). (r.start ≤ c.start) × (end_of_piece c ≤ r.end)) m.2 held)

-- the output sections of the template
abbrev templates : Link → Counts → List OutputSection
templates l counts = filter (is_template_output l) (output_sections_of l counts)

a_template : (l : Link) (counts : Counts) (o : OutputSection) → ObjectsAreRead l → Contains (templates l counts) o
    → (key : OutputKey) × (o ≡ Merged key) × IsTemplateKey l key
unfolding output_sections_of
a_template l counts o objects there =
    let f = filter_contains (is_template_output l) (output_sections_of l counts) o there in
    let m = flat_map_contains (output_sections_in l counts) (segment_names_of l) o f.0 in
    let t : IsTemplateOf l m.0 o = All-contains (λ (x : OutputSection). is_template_output l x ≡ true → IsTemplateOf l m.0 x)
    (output_sections_in l counts m.0) o (each_template l counts m.0) m.2 f.1 in
    (t.key, t.is, is_template_key l t.key objects t.listed t.type)

-- the output section of a section of the template
in_data_row : (l : Link) (key : OutputKey) → IsTemplateKey l key → Contains (sections_of_data l) (Merged key)
in_data_row l key k =
    let named = (bytes_eq-Decides key.segment DATA).1 k.segment in
    let plain = merged_in l DATA (λ x. not (is_zeros x) && not (x.type == S_THREAD_LOCAL_REGULAR)) in
    let regular = merged_in l DATA (λ x. x.type == S_THREAD_LOCAL_REGULAR) in
    let zeros = merged_in l DATA (λ x. x.type == S_THREAD_LOCAL_ZEROFILL) in
    let commons = merged_in l DATA (same_key common_key) in
    let rest = merged_in l DATA (λ x. is_zeros x && not (x.type == S_THREAD_LOCAL_ZEROFILL) && not (same_key common_key x)) in
    elim (or_cases (key.type == S_THREAD_LOCAL_REGULAR) (key.type == S_THREAD_LOCAL_ZEROFILL) k.type) [
      | inl is ↦ Contains-append_left (plain ++ regular ++ zeros ++ commons) rest (Merged key)
          (Contains-append_left (plain ++ regular ++ zeros) commons (Merged key)
          (Contains-append_left (plain ++ regular) zeros (Merged key)
          (Contains-append_right plain regular (Merged key)
          (contains_map Merged (filter (λ x. bytes_eq x.segment DATA && (x.type == S_THREAD_LOCAL_REGULAR)) (output_keys_of l)) key
          (contains_filter (λ (x : OutputKey). bytes_eq x.segment DATA && (x.type == S_THREAD_LOCAL_REGULAR))
          (output_keys_of l) key k.listed
          (and_from (bytes_eq key.segment DATA) (key.type == S_THREAD_LOCAL_REGULAR) named is))))))
      | inr is ↦ Contains-append_left (plain ++ regular ++ zeros ++ commons) rest (Merged key)
          (Contains-append_left (plain ++ regular ++ zeros) commons (Merged key)
          (Contains-append_right (plain ++ regular) zeros (Merged key)
          (contains_map Merged (filter (λ x. bytes_eq x.segment DATA && (x.type == S_THREAD_LOCAL_ZEROFILL)) (output_keys_of l)) key
          (contains_filter (λ (x : OutputKey). bytes_eq x.segment DATA && (x.type == S_THREAD_LOCAL_ZEROFILL))
          (output_keys_of l) key k.listed
          (and_from (bytes_eq key.segment DATA) (key.type == S_THREAD_LOCAL_ZEROFILL) named is)))))
    ]

data_there : (l : Link) (key : OutputKey) → IsTemplateKey l key → has_data l ≡ true
data_there l key k =
    let segment : segment_name_of (header_at l k.section) ≡ DATA = ap (λ (x : OutputKey). x.segment) k.is ∙ k.segment in
    or_left (has_section_in l DATA) (not (length (chosen_commons l) == 0))
    (list_any_at (λ s. bytes_eq (segment_name_of (header_at l s)) DATA) (carried_of l) k.carried.0 k.section k.carried.1
    (ap (λ (s : SectionId). bytes_eq (segment_name_of (header_at l s)) DATA) k.carried.2
    ∙ (bytes_eq-Decides (segment_name_of (header_at l k.section)) DATA).1 segment))

key_output : (l : Link) (counts : Counts) (key : OutputKey) → IsTemplateKey l key → Contains (templates l counts) (Merged key)
unfolding output_sections_of
key_output l counts key k =
    contains_filter (is_template_output l) (output_sections_of l counts) (Merged key)
    (contains_flat_map (output_sections_in l counts) (segment_names_of l) DATA (Merged key) (data_named l (data_there l key k))
    (in_data_row l key k))
    (template_key l key k.listed ∙ k.type)

-- a section of the template is a member of its key
pub record IsMember (l : Link) (p : Placed) (q : PlacedSection) : Type 0 where
  pub key : IsTemplateKey l (key_of (header_at l (id_of q)))
  pub member : Contains (placed_members l p (key_of (header_at l (id_of q)))) q

is_member : (l : Link) (counts : Counts) (p : Placed) (q : PlacedSection) → ObjectsAreRead l → StandInOrder l counts p
    → Contains (template_sections l p) q → IsMember l p q
is_member l counts p q objects order there =
    let f = filter_contains (λ (x : PlacedSection). is_template (header_at l (id_of x))) p.sections q there in
    let type = (and_parts (is_carried (header_at l (id_of q))) (is_template_type (type_of (header_at l (id_of q)))) f.1).1 in
    let listed = subst (λ (ss : List SectionId). Contains ss (id_of q)) order.sections (contains_map id_of p.sections q f.0) in
    record {
      key = section_key l (id_of q) objects listed type;
      member = contains_filter (λ (x : PlacedSection). same_key (key_of (header_at l (id_of x)))
          (key_of (header_at l (id_of q)))) p.sections q
          f.0 (same_key_itself (key_of (header_at l (id_of q))));
    }

-- by the range
filled : (l : Link) (counts : Counts) (p : Placed) (range : Option Range64) → ObjectsAreRead l → StandInOrder l counts p
    → AreLeast l counts p → TemplateHolds l counts p range → TemplateIsTight l p range
    → MatchOption range (map (output_header l p) (templates l counts) ≡ []) (FillTemplate (map (output_header l p) (templates l counts)))
filled l counts p None objects order least holds tight =
    ap (map (output_header l p)) (no_elements (templates l counts) (λ o there.
    let t = a_template l counts o objects there in
    let m = a_member l counts p t.0 order t.2 in
    nil_contains m.0 (subst (λ (qs : List PlacedSection). Contains qs m.0) holds (placed_template l counts p t.0 m.0 order t.2.type m.1))))
filled l counts p (Some r) objects order least holds tight =
    let a = is_member l counts p tight.first objects order tight.begins.0 in
    let z = is_member l counts p tight.last objects order tight.ends.0 in
    let key_a = key_of (header_at l (id_of tight.first)) in
    let key_z = key_of (header_at l (id_of tight.last)) in
    let around_a = around_key l counts p r key_a tight.first order holds a.key.type a.member in
    let around_z = around_key l counts p r key_z tight.last order holds z.key.type z.member in
    fills l p r (templates l counts) (Merged key_a) (Merged key_z) (templates_in_order l counts p objects order least) within
    (key_output l counts key_a a.key) (omega (arith, around_a.from, around_a.start, tight.begins.1))
    (key_output l counts key_z z.key) (omega (arith, around_z.end, around_z.to, tight.ends.1))
  where
    inside : (o : OutputSection) → Contains (templates l counts) o → IsWithin l p r o
    inside o there =
        let t = a_template l counts o objects there in
        let m = a_member l counts p t.0 order t.2 in
        let around = around_key l counts p r t.0 m.0 order holds t.2.type m.1 in
        subst (λ (x : OutputSection). IsWithin l p r x) (sym t.1) (around.from, around.to)

    within : All (IsWithin l p r) (templates l counts)
    within k d lt = inside (get_or (templates l counts) k d)
        (k, lt, get_or_default (templates l counts) k (get_or (templates l counts) k d) d lt)

-- THE headers
pub headers_tell_template : HeadersTellTemplate
unfolding template_headers output_sections_for
headers_tell_template l counts b p objects placed laid headers tight =
    let are : template_headers b ≡ map (output_header l p) (templates l counts)
    = ap (filter (λ (h : SectionHeader). is_template_type (type_of h))) (headers ∙ laid.sections ∙ headers_same l counts p)
    ∙ filter_of_map (output_header l p) (λ (h : SectionHeader). is_template_type (type_of h)) (output_sections_of l counts) in
    subst (λ (hs : List SectionHeader). MatchOption p.template (hs ≡ []) (FillTemplate hs)) (sym are)
    (filled l counts p p.template objects (order_of placed.whole_list laid.segments laid.names) (least_of laid.least)
    (template_of placed) tight)
