-- The number of an output section is the one that its header's place tells, and so a symbol's row has its section's number.
--
-- A header is one of a key exactly where its output section is the one that the key's sections are merged into; so the first places agree.
-- The key of a symbol's section, or of the commons, has its output section in the segment that it names, which is in the image since the
-- section, or a common, lies in it.
use Rattle.std.proofs.Common.{◌≡◌, ℕ, suc, ◌+◌, ◌<◌, ◌≤◌, ◌==◌, not, Bool, true, false, List, [], ◌∷◌, ◌++◌, map, length, refl, sym, ap, subst, ◌∙◌, arith, All, Contains}
use Rattle.std.specs.Prelude.{if◌then◌else◌, nat_lt}
use Rattle.std.specs.List.{position_or_len}
use Rattle.std.proofs.lemmas.Bool.{lt-ltb}
use Rattle.std.proofs.lemmas.Bool.Decides.{nat_tests}
use Rattle.std.proofs.lemmas.List.{length-map}
use Rattle.std.proofs.lemmas.List.Elements.{Contains-append_left, Contains-append_right}
use Rattle.std.proofs.lemmas.Slice.Eq.{bytes_eq-Decides}
use Rattle.macho_records.specs.declared.header.SectionHeader.{SectionHeader}
use Rattle.macho_records.specs.Segments.{text_of}
use Rattle.macho_records.specs.Sections.{segment_name_of}
use Rattle.macho_model.specs.declared.placed.Counts.{Counts}
use Rattle.macho_model.specs.declared.placed.PlacedSegment.{PlacedSegment}
use Rattle.macho_model.specs.declared.placed.PlacedCommon.{PlacedCommon}
use Rattle.macho_model.specs.Links.{Link, SectionId, header_at, carried_of}
use Rattle.macho_model.specs.Resolution.{chosen_commons}
use Rattle.macho_model.specs.Segments.{DATA, OutputKey, same_key, key_of, common_key, output_keys_of, segment_names_of, list_if}
use Rattle.macho_model.specs.steps.Outputs.{OutputSection, Merged, output_sections_in, output_sections_of, output_sections_for, output_header, is_merged}
use Rattle.macho_model.specs.Placement.{Placed, id_of, is_segment_named}
use Rattle.macho_model.specs.steps.Parts.{SectionLies, LiesInNamed}
use Rattle.macho_model.specs.Spans.{common_span}
use Rattle.macho_model.specs.SymbolEntries.{section_number}
use Rattle.macho_layout_laws.specs.Laws.{IsWhollyPlaced}
use Rattle.macho_bytes.proofs.Members.{contains_first, contains_map, map_contains, contains_flat_map, contains_range, all_contains, contains_all, position_below}
use Rattle.macho_image_laws.proofs.Distinct.{in_distinct}
use Rattle.macho_image_laws.proofs.TemplateKeys.{same_is}
use Rattle.macho_symbol_tables.specs.steps.Sections.{is_of, number_or_none, number_told}
use Rattle.macho_symbol_tables.proofs.Outputs.{merged_in_segment}
use Rattle.macho_symbol_tables.proofs.Headers.{header_agrees}
use Rattle.macho_model.proofs.Parts.{in_segment_of}
use Rattle.macho_model.proofs.Outputs.{headers_same, number_same}
use Rattle.macho_model.proofs.Sections.{same_key_itself}

-- the first place of tests that agree
same_place : {X Y : Type 0} (f : X → Y) (p : Y → Bool) (q : X → Bool) (xs : List X) → All (λ x. p (f x) ≡ q x) xs
    → position_or_len p (map f xs) ≡ position_or_len q xs
same_place f p q [] each = refl
same_place {X} {Y} f p q (x ∷ xs) each =
    by (q x) refl (same_place f p q xs (λ k d lt. each (suc k) d (omega (arith, lt))))
  where
    here : p (f x) ≡ q x
    here = each 0 x (omega arith)

    by : (b : Bool) → q x ≡ b → position_or_len p (map f xs) ≡ position_or_len q xs
        → position_or_len p (map f (x ∷ xs)) ≡ position_or_len q (x ∷ xs)
    by true e rest = rw (here, e) refl
    by false e rest = rw (here, e, rest) refl

headers_are : (l : Link) (counts : Counts) (p : Placed) → IsWhollyPlaced l counts p
    → p.output_sections ≡ map (output_header l p) (output_sections_of l counts)
unfolding output_sections_for
headers_are l counts p placed = placed.sections ∙ headers_same l counts p

-- a key whose output section is there
numbers_agree : (l : Link) (counts : Counts) (p : Placed) (key : OutputKey) → IsWhollyPlaced l counts p
    → Contains (output_sections_of l counts) (Merged key)
    → number_told p key ≡ section_number l counts key
unfolding number_told
numbers_agree l counts p key placed there =
    ap (λ (hs : List SectionHeader). number_or_none (position_or_len (is_of p key) hs) (length hs)) headers
    ∙ ap (λ (n : ℕ). number_or_none n (length (map (output_header l p) all))) first
    ∙ ap (number_or_none place) (length-map all (output_header l p))
    ∙ by (nat_lt place (length all)) (lt-ltb place (length all) below) ∙ sym (number_same l counts key)
  where
    all : List OutputSection
    all = output_sections_of l counts

    place : ℕ
    place = position_or_len (is_merged key) all

    headers : p.output_sections ≡ map (output_header l p) all
    headers = headers_are l counts p placed

    first : position_or_len (is_of p key) (map (output_header l p) all) ≡ place
    first = same_place (output_header l p) (is_of p key) (is_merged key) all
        (contains_all (λ (o : OutputSection). is_of p key (output_header l p o) ≡ is_merged key o) all
        (header_agrees l counts p key placed))

    below : place < length all
    below = position_below (is_merged key) all (Merged key) there (same_key_itself key)

    by : (t : Bool) → t ≡ true → (if t then place + 1 else 0) ≡ place + 1
    by t e = rw e refl

-- a segment of the placement is one of the link's
name_there : (l : Link) (counts : Counts) (p : Placed) (s : PlacedSegment) (n : List ℕ) → IsWhollyPlaced l counts p → Contains p.segments s
    → is_segment_named n s ≡ true
    → Contains (segment_names_of l) n
name_there l counts p s n placed one named =
    subst (λ (names : List (List ℕ)). Contains names n) placed.order.segments
    (subst (λ (m : List ℕ). Contains (map (λ (t : PlacedSegment). text_of t.name) p.segments) m)
    ((bytes_eq-Decides (text_of s.name) n).0 named)
    (contains_map (λ (t : PlacedSegment). text_of t.name) p.segments s one))

output_there : (l : Link) (counts : Counts) (key : OutputKey) → Contains (segment_names_of l) key.segment → Contains (output_keys_of l) key
    → Contains (output_sections_of l counts) (Merged key)
unfolding output_sections_of
output_there l counts key named there =
    contains_flat_map (output_sections_in l counts) (segment_names_of l) key.segment (Merged key) named
    (merged_in_segment l counts key.segment key there refl)

-- THE number of a carried section's output section
pub section_agrees : (l : Link) (counts : Counts) (p : Placed) (s : SectionId) → IsWhollyPlaced l counts p → Contains (carried_of l) s
    → number_told p (key_of (header_at l s)) ≡ section_number l counts (key_of (header_at l s))
unfolding output_keys_of
section_agrees l counts p s placed carried =
    let q = map_contains id_of p.sections s (subst (λ (ids : List SectionId). Contains ids s) (sym placed.order.sections) carried) in
    let lies = all_contains (SectionLies l p) p.sections q.0 (in_segment_of placed.placed).sections q.1 in
    let named = name_there l counts p lies.0 (segment_name_of (header_at l s)) placed (q.0.segment, lies.1.0, lies.1.1)
    (subst (λ (t : SectionId). is_segment_named (segment_name_of (header_at l t)) lies.0 ≡ true) q.2 lies.2) in
    numbers_agree l counts p (key_of (header_at l s)) placed
    (output_there l counts (key_of (header_at l s)) named
    (in_distinct same_key same_is (map (λ (t : SectionId). key_of (header_at l t)) (carried_of l)
    ++ list_if (not (length (chosen_commons l) == 0)) (common_key ∷ []))
    (key_of (header_at l s))
    (Contains-append_left (map (λ (t : SectionId). key_of (header_at l t)) (carried_of l))
    (list_if (not (length (chosen_commons l) == 0)) (common_key ∷ [])) (key_of (header_at l s))
    (contains_map (λ (t : SectionId). key_of (header_at l t)) (carried_of l) s carried))))

-- THE number of the commons' one
pub commons_agree : (l : Link) (counts : Counts) (p : Placed) → IsWhollyPlaced l counts p → 1 ≤ length (chosen_commons l)
    → number_told p common_key ≡ section_number l counts common_key
unfolding output_keys_of
commons_agree l counts p placed some =
    let c = map_contains (λ (d : PlacedCommon). d.id) p.commons 0
    (subst (λ (ids : List ℕ). Contains ids 0) (sym placed.order.commons) (contains_range (length (chosen_commons l)) 0 some)) in
    let lies = all_contains (λ (d : PlacedCommon). LiesInNamed p DATA false (common_span l d)) p.commons c.0
    (in_segment_of placed.placed).commons c.1 in
    numbers_agree l counts p common_key placed
    (output_there l counts common_key (name_there l counts p lies.0 DATA placed lies.1 lies.2)
    (in_distinct same_key same_is (map (λ (t : SectionId). key_of (header_at l t)) (carried_of l)
    ++ list_if (not (length (chosen_commons l) == 0)) (common_key ∷ []))
    common_key
    (Contains-append_right (map (λ (t : SectionId). key_of (header_at l t)) (carried_of l))
    (list_if (not (length (chosen_commons l) == 0)) (common_key ∷ [])) common_key
    (by (length (chosen_commons l)) some))))
  where
    by : (n : ℕ) → 1 ≤ n → Contains (list_if (not (n == 0)) (common_key ∷ [])) common_key
    by n one = let flag : (n == 0) ≡ false = grind (arith, nat_tests) in rw flag (contains_first common_key [])
