-- What a link's plan costs is what the link costs.
--
-- A carried section is of the template by its type alone, so it is placed at the alignment that the link says: the greatest
-- of the same sections', taken from the left or from the right. The commons are merged under a name that no section has, or
-- under that of a section, in the plan and in the link alike.
use Rattle.std.proofs.Common.{◌≡◌, ℕ, ◌+◌, ◌-◌, ◌/◌, ◌==◌, ◌&&◌, not, if◌then◌else◌, Bool, true, false, cond, List, [], ◌∷◌, ◌++◌, map, filter, fold, max, length, sum, sum_by, refl, sym, ap, ◌∙◌, arith, Decides}
use Rattle.std.specs.List.{list_any, enumerate_from, AllByRecursion}
use Rattle.std.specs.Str.{bytes_eq}
use Rattle.std.proofs.Math.Nat.{max_comm, zero-max}
use Rattle.std.proofs.lemmas.Bool.{and_parts, and_from, eqb-true, eq-eqb}
use Rattle.std.proofs.lemmas.Slice.Eq.{bytes_eq-Decides}
use Rattle.std.proofs.lemmas.List.{length-map, append-nil, length_push}
use Rattle.std.proofs.lemmas.List.Elements.{filter_passes, recursion_from_All}
use Rattle.std.proofs.lemmas.List.Folds.{fold-map}
use Rattle.std.proofs.lemmas.List.Sums.{sum-map, sum_by-cons}
use Rattle.std.specs.Prelude.{codes}
use Rattle.macho_bytes.specs.Texts.{name_of}
use Rattle.macho_bytes.specs.Layouts.{size_of}
use Rattle.macho_records.specs.Layouts.{mach_header, segment_command, section_header}
use Rattle.macho_records.specs.Segments.{name_field}
use Rattle.macho_records.specs.Sections.{is_template_type, type_of}
use Rattle.macho_model.specs.declared.placed.Counts.{Counts}
use Rattle.macho_model.specs.Links.{Link, SectionId, header_at, sections_of, carried_of, is_carried, is_template, template_exponent, placed_exponent, greatest}
use Rattle.macho_model.specs.Resolution.{chosen_commons, SymbolId, entry_at}
use Rattle.macho_model.specs.Targets.{stubs_of}
use Rattle.macho_model.specs.declared.targets.Target.TheVariants as target
use Rattle.macho_model.specs.Needs.{distinct}
use Rattle.macho_records.specs.Symbols.{common_exponent_of, common_size_of}
use Rattle.macho_model.specs.Segments.{DATA, SEGMENT_PAGE, segment_names_of, same_key, key_of, common_key, output_keys_of, output_count as link_outputs, list_if, one_if, OutputKey}
use Rattle.macho_model.specs.WrittenSum.{padding_of, section_cost as link_cost, content_sum as link_content, command_sum as link_commands, unsigned_sum as link_unsigned, written_sum_of}
use Rattle.macho_layout.specs.declared.spec.SectionSpec.{SectionSpec}
use Rattle.macho_layout.specs.declared.spec.CommonSpec.{CommonSpec}
use Rattle.macho_layout.specs.declared.spec.StubSpec.{StubSpec}
use Rattle.macho_layout.specs.Plans.{Planning, IsPlanOf, spec_of, common_spec_of}
use Rattle.macho_layout.specs.Keys.{padded, same_segment, same_output}
use Rattle.macho_layout.specs.Names.{section_outputs, segment_count, merged_count, has_new_commons, COMMON_NAME}
use Rattle.macho_layout.specs.Members.{type_of_spec, template_align, placed_align}
use Rattle.macho_layout.specs.Sums.{section_cost, members_cost, content_sum, output_count, unsigned_sum, written_sum}
use Rattle.macho_layout.proofs.Named.{fields_agree, distinct_map}
use Rattle.macho_layout.proofs.Distinct.{distinct_push}
use Rattle.macho_layout.proofs.Whole.{map_numbered}
use Rattle.macho_layout.proofs.SumLaw.{output_key, outputs_once, outputs_are, commons_many, segments_same}
use Rattle.macho_bytes.proofs.Bools.{and_group}
use Rattle.macho_bytes.proofs.Maps.{map_map, filter-map, any_map, any_agree}
use Rattle.macho_model.proofs.Sections.{name_in_field}

-- the test of keys decides whether they are equal
pub key-decides : (a b : OutputKey) → Decides (same_key a b) (a ≡ b)
key-decides a b = (
  λ t.
      let all = and_parts (bytes_eq a.segment b.segment && bytes_eq a.name b.name) (a.type == b.type) t in
      let both = and_parts (bytes_eq a.segment b.segment) (bytes_eq a.name b.name) all.0 in
      ap (λ (s : List ℕ). record { segment = s; name = a.name; type = a.type }) ((bytes_eq-Decides a.segment b.segment).0 both.0)
      ∙ ap (λ (n : List ℕ). record { segment = b.segment; name = n; type = a.type }) ((bytes_eq-Decides a.name b.name).0 both.1)
      ∙ ap (λ (k : ℕ). record { segment = b.segment; name = b.name; type = k }) (eqb-true a.type b.type all.1),
  λ e. and_from (bytes_eq a.segment b.segment && bytes_eq a.name b.name) (a.type == b.type)
      (and_from (bytes_eq a.segment b.segment) (bytes_eq a.name b.name)
      ((bytes_eq-Decides a.segment b.segment).1 (ap (λ (k : OutputKey). k.segment) e))
      ((bytes_eq-Decides a.name b.name).1 (ap (λ (k : OutputKey). k.name) e)))
      (eq-eqb a.type b.type (ap (λ (k : OutputKey). k.type) e)),
)

-- a section has the commons' name in the plan's table exactly where it has it in the link
pub common_agrees : (l : Link) (s : SectionId) → same_output COMMON_NAME (output_key l s) ≡ same_key common_key (key_of (header_at l s))
common_agrees l s =
    let h = header_at l s in
    ap (λ (t : Bool). t && (same_segment (padded (codes "__common")) (output_key l s).name && (1 == (output_key l s).kind)))
    (fields_agree DATA (name_field (header_at l s).segname) ∙ ap (bytes_eq DATA) (name_in_field (header_at l s).segname))
    ∙ ap (λ (t : Bool). bytes_eq DATA (name_of (header_at l s).segname) && (t && (1 == (output_key l s).kind)))
    (fields_agree (codes "__common") (header_at l s).sectname)
    ∙ and_group (bytes_eq DATA (name_of (header_at l s).segname)) (bytes_eq (codes "__common") (name_of (header_at l s).sectname))
    (1 == type_of (header_at l s))

-- as many merged output sections
put_many : {X : Type 0} (b : Bool) (xs : List X) (x : X) → length (cond b xs (xs ++ x ∷ [])) ≡ length xs + one_if (not b)
put_many true xs x = omega arith
put_many false xs x = length_push xs x

merged_same : (l : Link) (p : Planning) → IsPlanOf l p → merged_count p ≡ length (output_keys_of l)
unfolding output_keys_of
merged_same l p plan =
    let keys : List OutputKey = map (λ s. key_of (header_at l s)) (carried_of l) in
    let once : distinct same_key (map (λ s. key_of (header_at l s)) (carried_of l)) ≡ map (λ s. key_of (header_at l s)) (outputs_once l)
    = distinct_map same_key (λ s. key_of (header_at l s)) (carried_of l) in
    let mine : length (section_outputs p) ≡ length (outputs_once l) = ap length (outputs_are l p plan) ∙ length-map (outputs_once l)
    (output_key l) in
    let there : list_any (same_output COMMON_NAME) (section_outputs p) ≡ list_any (same_key common_key)
    (distinct same_key (map (λ s. key_of (header_at l s)) (carried_of l)))
    = ap (list_any (same_output COMMON_NAME)) (outputs_are l p plan) ∙ any_map (same_output COMMON_NAME) (output_key l) (outputs_once l)
    ∙ any_agree (λ s. same_output COMMON_NAME (output_key l s)) (λ s. same_key common_key (key_of (header_at l s))) (common_agrees l)
    (outputs_once l)
    ∙ sym (ap (list_any (same_key common_key)) once ∙ any_map (same_key common_key) (λ s. key_of (header_at l s)) (outputs_once l)) in
    let new : one_if (has_new_commons p) ≡ one_if (not (length (chosen_commons l) == 0) && not
    (list_any (same_key common_key) (distinct same_key (map (λ s. key_of (header_at l s)) (carried_of l)))))
    = ap (λ (n : ℕ). one_if (not (n == 0) && not (list_any (same_output COMMON_NAME) (section_outputs p)))) (commons_many l p plan)
    ∙ ap (λ (b : Bool). one_if (not (length (chosen_commons l) == 0) && not b)) there in
    let long : length (distinct same_key (map (λ s. key_of (header_at l s)) (carried_of l))) ≡ length (outputs_once l)
    = ap length once ∙ length-map (outputs_once l) (λ s. key_of (header_at l s)) in
    omega (arith, mine, new, long, by (not (length (chosen_commons l) == 0)))
  where
    by : (b : Bool) → length (distinct same_key (map (λ s. key_of (header_at l s)) (carried_of l) ++ list_if b (common_key ∷ [])))
        ≡ length (distinct same_key (map (λ s. key_of (header_at l s)) (carried_of l))) + one_if
        (b && not (list_any (same_key common_key) (distinct same_key (map (λ s. key_of (header_at l s)) (carried_of l)))))
    by true =
        ap length (distinct_push same_key key-decides (map (λ s. key_of (header_at l s)) (carried_of l)) common_key)
        ∙ put_many (list_any (same_key common_key) (distinct same_key (map (λ s. key_of (header_at l s)) (carried_of l))))
        (distinct same_key (map (λ s. key_of (header_at l s)) (carried_of l))) common_key
    by false = ap (λ (ks : List OutputKey). length (distinct same_key ks)) (append-nil (map (λ s. key_of (header_at l s)) (carried_of l)))
        ∙ omega arith

pub stubs_many : (l : Link) (p : Planning) → IsPlanOf l p → length p.stubs ≡ length (stubs_of l)
stubs_many l p plan = sym (length-map p.stubs (λ (s : StubSpec). target.Import s.import)) ∙ ap length plan.stubs

-- as many output sections
pub outputs_same : (l : Link) (p : Planning) (counts : Counts) → IsPlanOf l p → output_count p counts ≡ link_outputs l counts
unfolding link_outputs
outputs_same l p counts plan =
    omega (
      arith,
      merged_same l p plan,
      ap (λ (n : ℕ). one_if (not (n == 0))) (stubs_many l p plan),
      ap (λ (n : ℕ). one_if (not (n == 0))) (ap length plan.slots),
    )

-- two filters, one behind the other
filter_both : {X : Type 0} (p q : X → Bool) (xs : List X) → filter p (filter q xs) ≡ filter (λ x. q x && p x) xs
filter_both p q [] = refl
filter_both {X} p q (x ∷ xs) = by (filter_both p q xs) (q x)
  where
    by : filter p (filter q xs) ≡ filter (λ y. q y && p y) xs → (b : Bool) → filter p (cond b (x ∷ filter q xs) (filter q xs)) ≡ cond
        (b && p x) (x ∷ filter (λ y. q y && p y) xs) (filter (λ y. q y && p y) xs)
    by h true = ap (λ (zs : List X). cond (p x) (x ∷ zs) zs) h
    by h false = h

max_group : (a b c : ℕ) → max (max a b) c ≡ max a (max b c)
max_group a b c = omega arith

-- the greatest, from the left and from the right
pub fold_greatest : (a : ℕ) (ns : List ℕ) → fold max a ns ≡ max a (greatest ns)
fold_greatest a [] = omega arith
fold_greatest a (n ∷ ns) = fold_greatest (max a n) ns ∙ max_group a n (greatest ns)

-- the template is placed at the same alignment
template_same : (l : Link) (p : Planning) → IsPlanOf l p → template_align p ≡ template_exponent l
unfolding template_align template_exponent carried_of
template_same l p plan =
    let test : SectionSpec → Bool = λ s. is_template_type (type_of_spec s) in
    let kept : filter (λ (s : SectionSpec). is_template_type (type_of_spec s)) p.sections ≡ map (spec_of l)
    (filter (λ s. is_template (header_at l s)) (sections_of l))
    = ap (filter (λ (s : SectionSpec). is_template_type (type_of_spec s))) plan.sections
    ∙ filter-map (λ (s : SectionSpec). is_template_type (type_of_spec s)) (spec_of l)
    (filter (λ s. is_carried (header_at l s)) (sections_of l))
    ∙ ap (map (spec_of l)) (filter_both (λ s. is_template_type (type_of (header_at l s))) (λ s. is_carried (header_at l s))
    (sections_of l)) in
    ap (λ (ss : List SectionSpec). fold max 0 (map (λ (s : SectionSpec). s.align) ss)) kept
    ∙ ap (fold max 0) (map_map (λ (s : SectionSpec). s.align) (spec_of l) (filter (λ s. is_template (header_at l s)) (sections_of l)))
    ∙ fold_greatest 0 (map (λ s. (header_at l s).align) (filter (λ s. is_template (header_at l s)) (sections_of l)))
    ∙ zero-max (greatest (map (λ s. (header_at l s).align) (filter (λ s. is_template (header_at l s)) (sections_of l))))

-- a carried section is placed at the same alignment
pub align_same : (l : Link) (p : Planning) (s : SectionId) → IsPlanOf l p → is_carried (header_at l s) ≡ true → placed_align
    (template_align p) (spec_of l s) ≡ placed_exponent l s
unfolding placed_exponent
align_same l p s plan carried =
    let h = header_at l s in
    let t : is_template (header_at l s) ≡ is_template_type (type_of (header_at l s)) = ap
    (λ (b : Bool). b && is_template_type (type_of (header_at l s))) carried in
    ap (λ (n : ℕ). if is_template_type (type_of (header_at l s)) then n else if type_of (header_at l s) == 0x13 then max
    (header_at l s).align 3 else (header_at l s).align) (template_same l p plan)
    ∙ ap (λ (n : ℕ). if is_template_type (type_of (header_at l s)) then template_exponent l else if type_of
    (header_at l s) == 0x13 then n else (header_at l s).align) (max_comm (header_at l s).align 3)
    ∙ ap (λ (b : Bool). if b then template_exponent l else if type_of (header_at l s) == 0x13 then max 3 (header_at l s).align else
    (header_at l s).align) (sym t)

-- sums of what is the same for each element
sums_agree : {X : Type 0} (f g : X → ℕ) (xs : List X) → AllByRecursion (λ x. f x ≡ g x) xs → sum_by f xs ≡ sum_by g xs
sums_agree f g [] h = refl
sums_agree f g (x ∷ xs) h = omega (arith, sum_by-cons f x xs, sum_by-cons g x xs, h.0, sums_agree f g xs h.1)

pub all_carried : (l : Link) (f g : SectionId → ℕ) → ((s : SectionId) → is_carried (header_at l s) ≡ true → f s ≡ g s) → AllByRecursion
    (λ s. f s ≡ g s) (carried_of l)
unfolding carried_of
all_carried l f g e = recursion_from_All (λ s. f s ≡ g s) (filter (λ s. is_carried (header_at l s)) (sections_of l))
    (λ k d low. e _ (filter_passes (λ s. is_carried (header_at l s)) (sections_of l) k d low))

-- what a common costs, and how many segments are mapped from the file
abbrev common_cost : Link → SymbolId → ℕ
common_cost l s = common_size_of (entry_at l s) + padding_of (common_exponent_of (entry_at l s))

abbrev file_segments : Link → ℕ
file_segments l = length (segment_names_of l) - one_if l.executable

-- sections and commons cost the same
members_same : (l : Link) (p : Planning) → IsPlanOf l p → members_cost p ≡ sum_by (link_cost l) (carried_of l) + sum_by (common_cost l)
    (chosen_commons l)
unfolding members_cost
members_same l p plan =
    let sections : sum_by (λ (s : SectionSpec). section_cost s.size (placed_align (template_align p) s)) p.sections ≡ sum_by (link_cost l)
    (carried_of l)
    = ap (sum_by (λ (s : SectionSpec). section_cost s.size (placed_align (template_align p) s))) plan.sections
    ∙ fold-map (λ (n : ℕ) (s : SectionSpec). n + section_cost s.size (placed_align (template_align p) s)) (spec_of l) 0 (carried_of l)
    ∙ sums_agree (λ s. section_cost (header_at l s).size (placed_align (template_align p) (spec_of l s))) (link_cost l) (carried_of l)
    (all_carried l (λ s. section_cost (header_at l s).size (placed_align (template_align p) (spec_of l s))) (link_cost l)
    (λ s carried. ap (λ (e : ℕ). section_cost (header_at l s).size e) (align_same l p s plan carried))) in
    let commons : sum_by (λ (c : CommonSpec). section_cost c.size c.align) p.commons ≡ sum_by (common_cost l) (chosen_commons l)
    = ap (sum_by (λ (c : CommonSpec). section_cost c.size c.align)) plan.commons
    ∙ sym (sum-map (λ (c : CommonSpec). section_cost c.size c.align) (map (common_spec_of l) (enumerate_from 0 (chosen_commons l))))
    ∙ ap sum (map_numbered (λ (c : CommonSpec). section_cost c.size c.align) (common_spec_of l) (common_cost l) (λ n x. refl) 0
    (chosen_commons l))
    ∙ sum-map (common_cost l) (chosen_commons l) in
    omega (arith, sections, commons)

-- the sums are the same
pub content_same : (l : Link) (p : Planning) (counts : Counts) → IsPlanOf l p → content_sum p counts ≡ link_content l counts
unfolding link_content
content_same l p counts plan =
    omega (arith, members_same l p plan, ap length plan.slots, stubs_many l p plan)

pub unsigned_same : (l : Link) (p : Planning) (counts : Counts) → IsPlanOf l p → unsigned_sum p counts ≡ link_unsigned l counts
unfolding link_unsigned link_commands
unsigned_same l p counts plan =
    let content = content_same l p counts plan in
    let pages = ap (λ (n : ℕ). n / SEGMENT_PAGE) content in
    let segments = segments_same l p plan in
    let files : segment_count p - one_if p.executable ≡ file_segments l
    = ap (λ (n : ℕ). n - one_if p.executable) segments ∙ ap (λ (b : Bool). length (segment_names_of l) - one_if b) plan.executable in
    let outputs = outputs_same l p counts plan in
    let parts = ap length plan.sections ∙ length-map (carried_of l) (spec_of l) in
    let commons = commons_many l p plan in
    let one : size_of mach_header ≡ 32 = refl in
    let two : size_of segment_command ≡ 72 = refl in
    let three : size_of section_header ≡ 80 = refl in
    omega (arith, content, pages, segments, files, outputs, parts, commons)

pub written_same : (l : Link) (p : Planning) (counts : Counts) → IsPlanOf l p → written_sum p counts ≡ written_sum_of l counts
unfolding written_sum_of
written_same l p counts plan =
    let unsigned = unsigned_same l p counts plan in
    omega (arith, unsigned, ap (λ (n : ℕ). n / 4096) unsigned)
