-- The output sections of the template, of all segments, stand one behind the other.
--
-- They are those of `__DATA`, as no other segment has any and `__DATA` is named at most once. In `__DATA` output sections stand in
-- order.
use Rattle.std.proofs.Common.{◌≡◌, ℕ, zero, suc, ◌==◌, ◌||◌, not, Bool, true, false, List, [], ◌∷◌, ◌++◌, map, filter, length, get_or, refl, sym, ap, subst, ◌∙◌, arith, All}
use Rattle.std.specs.Prelude.{Contains, AllPairs}
use Rattle.std.specs.List.{flat_map}
use Rattle.std.specs.Str.{bytes_eq}
use Rattle.std.proofs.lemmas.Bool.{true≢false}
use Rattle.std.proofs.lemmas.List.Concat.{flat_map-append, flat_map-cons}
use Rattle.std.proofs.lemmas.List.{append-nil, get_or-map, get_or_default, length-map}
use Rattle.std.proofs.lemmas.List.Elements.{All-append, All-contains, Contains-append_left, Contains-append_right, filter-append}
use Rattle.std.proofs.lemmas.List.Kept.{AllPairs-filter}
use Rattle.std.proofs.lemmas.Slice.Eq.{bytes_eq-Decides}
use Rattle.macho_records.specs.Segments.{text_of}
use Rattle.macho_records.specs.Sections.{segment_name_of}
use Rattle.macho_model.specs.declared.placed.Counts.{Counts}
use Rattle.macho_model.specs.declared.placed.PlacedSegment.{PlacedSegment}
use Rattle.macho_model.specs.Links.{Link, carried_of, header_at}
use Rattle.macho_model.specs.Resolution.{chosen_commons}
use Rattle.macho_model.specs.Needs.{distinct}
use Rattle.macho_model.specs.Targets.{slots_of}
use Rattle.macho_model.specs.Segments.{PAGEZERO, TEXT, DATA_CONST, DATA, LINKEDIT, is_known_segment, other_segments, has_section_in, segment_names_of, list_if}
use Rattle.macho_model.specs.Placement.{Placed, Piece}
use Rattle.macho_model.specs.steps.Outputs.{OutputSection, output_sections_in, output_sections_of, extent_of}
use Rattle.macho_model.specs.Spans.{StandInOrder}
use Rattle.macho_model.specs.steps.Least.{AreLeast, row_of, sections_in}
use Rattle.macho_model.proofs.Least.{EndsBefore, rows_in_order}
use Rattle.macho_model.specs.Grammar.{ObjectsAreRead}
use Rattle.macho_image_laws.proofs.TemplateRange.{IsBehind}
use Rattle.macho_image_laws.proofs.TemplateKeys.{IsTemplateOf, is_template_output, is_template_key, each_template}
use Rattle.macho_bytes.proofs.Members.{contains_first, map_contains, filter_contains}

-- a list without elements
pub no_elements : {X : Type 0} (xs : List X) → ((x : X) → Contains xs x → ⊥) → xs ≡ []
no_elements [] none = refl
no_elements (x ∷ xs) none = absurd (none x (contains_first x xs))

-- those of a segment
abbrev pub templates_in : Link → Counts → List ℕ → List OutputSection
templates_in l counts n = filter (is_template_output l) (output_sections_in l counts n)

-- what is in none but `__DATA`
none_in : (l : Link) (counts : Counts) (n : List ℕ) → ObjectsAreRead l → bytes_eq n DATA ≡ false → templates_in l counts n ≡ []
none_in l counts n objects other = no_elements (templates_in l counts n) (λ o there.
    let f = filter_contains (is_template_output l) (output_sections_in l counts n) o there in
    let t : IsTemplateOf l n o = All-contains (λ (x : OutputSection). is_template_output l x ≡ true → IsTemplateOf l n x)
    (output_sections_in l counts n) o (each_template l counts n) f.0 f.1 in
    let key = is_template_key l t.key objects t.listed t.type in
    true≢false (sym ((bytes_eq-Decides n DATA).1 (sym t.segment ∙ key.segment)) ∙ other))

none_in_all : (l : Link) (counts : Counts) (ns : List (List ℕ)) → ObjectsAreRead l → All (λ n. bytes_eq n DATA ≡ false) ns
    → filter (is_template_output l) (flat_map (output_sections_in l counts) ns) ≡ []
none_in_all l counts ns objects others = by ns others
  where
    by : (ms : List (List ℕ)) → All (λ n. bytes_eq n DATA ≡ false) ms
        → filter (is_template_output l) (flat_map (output_sections_in l counts) ms) ≡ []
    by [] each = refl
    by (m ∷ ms) each =
        ap (filter (is_template_output l)) (flat_map-cons (output_sections_in l counts) m ms)
        ∙ filter-append (is_template_output l) (output_sections_in l counts m) (flat_map (output_sections_in l counts) ms)
        ∙ ap (λ (os : List OutputSection). os ++ filter (is_template_output l) (flat_map (output_sections_in l counts) ms))
        (none_in l counts m objects (each 0 m (omega arith)))
        ∙ by ms (λ k d lt. each (suc k) d (omega (arith, lt)))

-- names of segments beside `__DATA`
before_data : (b c : Bool) → All (λ n. bytes_eq n DATA ≡ false) (list_if b (PAGEZERO ∷ []) ++ TEXT ∷ [] ++ list_if c (DATA_CONST ∷ []))
before_data b c =
    let P : List ℕ → Type 0 = λ n. bytes_eq n DATA ≡ false in
    All-append P _ _ (All-append P _ _ (one b PAGEZERO refl) (one true TEXT refl)) (one c DATA_CONST refl)
  where
    one : (b : Bool) (n : List ℕ) → bytes_eq n DATA ≡ false → All (λ m. bytes_eq m DATA ≡ false) (list_if b (n ∷ []))
    one true n other zero d lt = other
    one true n other (suc k) d lt = absurd (omega (arith, lt))
    one false n other k d lt = absurd (omega (arith, lt))

others_known : (a b c d e : Bool) → not (a || b || c || d || e) ≡ true → d ≡ false
others_known a b c false e h = refl
others_known true b c true e h = absurd (true≢false (sym h))
others_known false true c true e h = absurd (true≢false (sym h))
others_known false false true true e h = absurd (true≢false (sym h))
others_known false false false true e h = absurd (true≢false (sym h))

-- whether there is a `__DATA`
abbrev pub has_data : Link → Bool
has_data l = has_section_in l DATA || not (length (chosen_commons l) == 0)

abbrev names_before : Link → List (List ℕ)
names_before l =
    list_if l.executable (PAGEZERO ∷ []) ++ TEXT ∷ []
    ++ list_if (has_section_in l DATA_CONST || not (length (slots_of l) == 0)) (DATA_CONST ∷ [])

others_differ : (l : Link) → All (λ n. bytes_eq n DATA ≡ false) (other_segments l)
unfolding other_segments
others_differ l k d lt =
    let n = get_or (other_segments l) k d in
    let f = filter_contains (λ (name : List ℕ). not (is_known_segment name))
    (distinct bytes_eq (map (λ s. segment_name_of (header_at l s)) (carried_of l))) n
    (k, lt, get_or_default (other_segments l) k n d lt) in
    others_known (bytes_eq n PAGEZERO) (bytes_eq n TEXT) (bytes_eq n DATA_CONST) (bytes_eq n DATA) (bytes_eq n LINKEDIT) f.1

last_differs : All (λ n. bytes_eq n DATA ≡ false) (LINKEDIT ∷ [])
last_differs zero d lt = refl
last_differs (suc k) d lt = absurd (omega (arith, lt))

-- THE output sections of the template
abbrev templates_of : Link → Counts → List (List ℕ) → List OutputSection
templates_of l counts ns = filter (is_template_output l) (flat_map (output_sections_in l counts) ns)

of_both : (l : Link) (counts : Counts) (ns ms : List (List ℕ))
    → templates_of l counts (ns ++ ms) ≡ templates_of l counts ns ++ templates_of l counts ms
of_both l counts ns ms =
    ap (filter (is_template_output l)) (flat_map-append (output_sections_in l counts) ns ms)
    ∙ filter-append (is_template_output l) (flat_map (output_sections_in l counts) ns) (flat_map (output_sections_in l counts) ms)

none_behind : (l : Link) (counts : Counts) (ns ms : List (List ℕ)) → ObjectsAreRead l → All (λ n. bytes_eq n DATA ≡ false) ms
    → templates_of l counts (ns ++ ms) ≡ templates_of l counts ns
none_behind l counts ns ms objects differ =
    of_both l counts ns ms
    ∙ ap (λ (os : List OutputSection). templates_of l counts ns ++ os) (none_in_all l counts ms objects differ)
    ∙ append-nil (templates_of l counts ns)

none_before : (l : Link) (counts : Counts) (ns ms : List (List ℕ)) → ObjectsAreRead l → All (λ n. bytes_eq n DATA ≡ false) ns
    → templates_of l counts (ns ++ ms) ≡ templates_of l counts ms
none_before l counts ns ms objects differ =
    of_both l counts ns ms
    ∙ ap (λ (os : List OutputSection). os ++ templates_of l counts ms) (none_in_all l counts ns objects differ)

templates_are : (l : Link) (counts : Counts) → ObjectsAreRead l
    → filter (is_template_output l) (output_sections_of l counts) ≡ templates_of l counts (list_if (has_data l) (DATA ∷ []))
unfolding output_sections_of segment_names_of
templates_are l counts objects =
    none_behind l counts (names_before l ++ list_if (has_data l) (DATA ∷ []) ++ other_segments l) (LINKEDIT ∷ []) objects last_differs
    ∙ none_behind l counts (names_before l ++ list_if (has_data l) (DATA ∷ [])) (other_segments l) objects (others_differ l)
    ∙ none_before l counts (names_before l) (list_if (has_data l) (DATA ∷ [])) objects (before_data l.executable _)

-- and in `__DATA` they stand in order
pub data_named : (l : Link) → has_data l ≡ true → Contains (segment_names_of l) DATA
unfolding segment_names_of
data_named l has =
    Contains-append_left (names_before l ++ list_if (has_data l) (DATA ∷ []) ++ other_segments l) (LINKEDIT ∷ []) DATA
    (Contains-append_left (names_before l ++ list_if (has_data l) (DATA ∷ [])) (other_segments l) DATA
    (Contains-append_right (names_before l) (list_if (has_data l) (DATA ∷ [])) DATA
    (subst (λ (b : Bool). Contains (list_if b (DATA ∷ [])) DATA) (sym has) (contains_first DATA []))))

data_row : (l : Link) (counts : Counts) (p : Placed) (s : PlacedSegment) → AreLeast l counts p → Contains p.segments s
    → AllPairs (IsBehind l p) (output_sections_in l counts (text_of s.name))
unfolding row_of
data_row l counts p s least there i j d lt within =
    let os = output_sections_in l counts (text_of s.name) in
    let row = All-contains (λ (t : PlacedSegment). AllPairs EndsBefore (row_of l counts p t (sections_in l counts t)))
    p.segments s (rows_in_order l counts p least) there in
    let pair = row (suc i) (suc j) (extent_of l p d) (omega (arith, lt)) (omega (arith, within, length-map os (extent_of l p))) in
    let first = get_or-map (extent_of l p) os i d (extent_of l p d) (omega (arith, lt, within)) in
    let second = get_or-map (extent_of l p) os j d (extent_of l p d) within in
    subst (λ (x : Piece). EndsBefore x (extent_of l p (get_or os j d))) first
    (subst (λ (y : Piece). EndsBefore (get_or (map (extent_of l p) os) i (extent_of l p d)) y) second pair)

pub templates_in_order : (l : Link) (counts : Counts) (p : Placed) → ObjectsAreRead l → StandInOrder l counts p → AreLeast l counts p
    → AllPairs (IsBehind l p) (filter (is_template_output l) (output_sections_of l counts))
templates_in_order l counts p objects order least =
    subst (λ (os : List OutputSection). AllPairs (IsBehind l p) os) (sym (templates_are l counts objects)) (by (has_data l) refl)
  where
    by : (b : Bool) → has_data l ≡ b → AllPairs (IsBehind l p) (templates_of l counts (list_if b (DATA ∷ [])))
    by false has = λ i j d lt within. absurd (omega (arith, within))
    by true has =
        let names = subst (λ (ns : List (List ℕ)). Contains ns DATA) (sym order.segments) (data_named l has) in
        let m = map_contains (λ (s : PlacedSegment). text_of s.name) p.segments DATA names in
        let row = data_row l counts p m.0 least m.1 in
        let here = subst (λ (n : List ℕ). AllPairs (IsBehind l p) (output_sections_in l counts n)) m.2 row in
        subst (λ (os : List OutputSection). AllPairs (IsBehind l p) (filter (is_template_output l) os))
        (sym (flat_map-cons (output_sections_in l counts) DATA [] ∙ append-nil (output_sections_in l counts DATA)))
        (AllPairs-filter (IsBehind l p) (is_template_output l) (output_sections_in l counts DATA) here)
