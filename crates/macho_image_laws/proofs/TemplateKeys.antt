-- Which output sections are of the thread-local template.
--
-- The type in the header of an output section is that of its key, so those of the template are merged ones, of a key of the template.
-- Such a key is that of a carried section, which by the rules of objects is in `__DATA`.
use Rattle.std.proofs.Common.{◌≡◌, ℕ, zero, suc, ◌<◌, ◌⊎◌, ◌==◌, ◌&&◌, Bool, true, false, List, [], ◌∷◌, map, filter, get_or, refl, sym, ap, ◌%◌, ◌∙◌, arith, inl, inr, All}
use Rattle.std.specs.Prelude.{Contains}
use Rattle.std.specs.Str.{bytes_eq}
use Rattle.std.proofs.lemmas.Bool.{and_parts, or_left, eqb-true, true≢false}
use Rattle.std.proofs.lemmas.List.{get_or_default}
use Rattle.std.proofs.lemmas.List.Elements.{All-append, Contains-append_cases, Contains-append_left}
use Rattle.std.proofs.lemmas.Slice.Eq.{bytes_eq-Decides}
use Rattle.macho_bytes.specs.Texts.{name_of}
use Rattle.macho_records.specs.Sections.{type_of, is_template_type}
use Rattle.macho_records.specs.declared.constants.TheConstants.{S_THREAD_LOCAL_VARIABLES}
use Rattle.macho_model.specs.declared.placed.Counts.{Counts}
use Rattle.macho_model.specs.Links.{Link, SectionId, header_at, carried_of}
use Rattle.macho_model.specs.ObjectRules.{is_thread_local}
use Rattle.macho_model.specs.Segments.{TEXT, DATA, OutputKey, same_key, key_of, common_key, output_keys_of, list_if}
use Rattle.macho_model.specs.steps.Outputs.{OutputSection, Merged, InitOffsets, UnwindInfo, Stubs, Slots, merged_in, sections_of_text, sections_of_data, sections_of_other, output_sections_in, flags_of_output}
use Rattle.macho_model.specs.Grammar.{ObjectsAreRead}
use Rattle.macho_image_laws.proofs.Distinct.{in_distinct}
use Rattle.macho_image_laws.proofs.Leading.{carried_section}
use Rattle.macho_image_laws.proofs.LowByte.{type_is}
use Rattle.macho_bytes.proofs.Members.{contains_cases, nil_contains, contains_map, map_contains, filter_contains}
use Rattle.macho_model.proofs.Distinct.{distinct_contains}

-- keys that are the same are equal
pub same_is : (a b : OutputKey) → same_key a b ≡ true → a ≡ b
same_is a b same =
    let one = and_parts (bytes_eq a.segment b.segment && bytes_eq a.name b.name) (a.type == b.type) same in
    let two = and_parts (bytes_eq a.segment b.segment) (bytes_eq a.name b.name) one.0 in
    ap (λ (s : List ℕ). record { segment = s; name = a.name; type = a.type }) ((bytes_eq-Decides a.segment b.segment).0 two.0)
    ∙ ap (λ (n : List ℕ). record { segment = b.segment; name = n; type = a.type }) ((bytes_eq-Decides a.name b.name).0 two.1)
    ∙ ap (λ (t : ℕ). record { segment = b.segment; name = b.name; type = t }) (eqb-true a.type b.type one.1)

-- a key is that of a carried section, or the one of commons
key_from : (l : Link) (key : OutputKey) → Contains (output_keys_of l) key
    → ((s : SectionId) × Contains (carried_of l) s × (key_of (header_at l s) ≡ key)) ⊎ (common_key ≡ key)
unfolding output_keys_of
key_from l key there = elim
    (Contains-append_cases (map (λ s. key_of (header_at l s)) (carried_of l)) _ key (distinct_contains same_key _ key there)) [
      | inl of_section ↦ inl (map_contains (λ s. key_of (header_at l s)) (carried_of l) key of_section)
      | inr of_commons ↦ inr (common _ of_commons)
    ]
  where
    common : (b : Bool) → Contains (list_if b (common_key ∷ [])) key → common_key ≡ key
    common true there = elim (contains_cases common_key [] key there) [
      | inl here ↦ here
      | inr none ↦ absurd (nil_contains key none)
    ]
    common false there = absurd (nil_contains key there)

key_small : (l : Link) (key : OutputKey) → Contains (output_keys_of l) key → key.type < 256
key_small l key there = elim (key_from l key there) [
  | inl s ↦ omega (arith, ap (λ (k : OutputKey). k.type) s.2)
  | inr common ↦ omega (arith, ap (λ (k : OutputKey). k.type) common)
]

-- of the template
abbrev pub is_template_output : Link → OutputSection → Bool
is_template_output l o = is_template_type (flags_of_output l o % 256)

pub template_key : (l : Link) (key : OutputKey) → Contains (output_keys_of l) key
    → is_template_output l (Merged key) ≡ is_template_type key.type
template_key l key there = ap is_template_type (type_is l key (key_small l key there))

-- a key of the template, with a section of it
pub record IsTemplateKey (l : Link) (key : OutputKey) : Type 0 where
  pub listed : Contains (output_keys_of l) key
  pub type : is_template_type key.type ≡ true
  pub section : SectionId
  pub carried : Contains (carried_of l) section
  pub is : key_of (header_at l section) ≡ key
  pub segment : key.segment ≡ DATA

-- by the rules of objects a section of the template is in `__DATA`
pub in_data : (l : Link) (s : SectionId) → ObjectsAreRead l → Contains (carried_of l) s
    → is_template_type (type_of (header_at l s)) ≡ true → name_of (header_at l s).segname ≡ DATA
in_data l s objects one type =
    let h = carried_section l s objects one in
    let rule = h.file.object.o11 s.section h.within in
    let local : is_thread_local (type_of (header_at l s)) ≡ true
    = or_left (is_template_type (type_of (header_at l s))) (type_of (header_at l s) == S_THREAD_LOCAL_VARIABLES) type in
    let named : bytes_eq (name_of (header_at l s).segname) DATA ≡ true = rw local at rule in
    (bytes_eq-Decides (name_of (header_at l s).segname) DATA).0 named

pub is_template_key : (l : Link) (key : OutputKey) → ObjectsAreRead l → Contains (output_keys_of l) key
    → is_template_type key.type ≡ true → IsTemplateKey l key
is_template_key l key objects there type = elim (key_from l key there) [
  | inl s ↦ record {
    listed = there;
    type = type;
    section = s.0;
    carried = s.1;
    is = s.2;
    segment = sym (ap (λ (k : OutputKey). k.segment) s.2)
        ∙ in_data l s.0 objects s.1 (ap (λ (k : OutputKey). is_template_type k.type) s.2 ∙ type);
  }
  | inr common ↦ absurd (true≢false (sym type ∙ ap (λ (k : OutputKey). is_template_type k.type) (sym common)))
]

-- the key of a section of the template is one
pub section_key : (l : Link) (s : SectionId) → ObjectsAreRead l → Contains (carried_of l) s
    → is_template_type (type_of (header_at l s)) ≡ true → IsTemplateKey l (key_of (header_at l s))
unfolding output_keys_of
section_key l s objects one type = record {
  listed = in_distinct same_key same_is _ (key_of (header_at l s))
      (Contains-append_left (map (λ (t : SectionId). key_of (header_at l t)) (carried_of l)) _ (key_of (header_at l s))
      (contains_map (λ (t : SectionId). key_of (header_at l t)) (carried_of l) s one));
  type = type;
  section = s;
  carried = one;
  is = refl;
  segment = in_data l s objects one type;
}

-- an output section of a segment that is of the template is a merged one of such a key, in that segment
pub record IsTemplateOf (l : Link) (n : List ℕ) (o : OutputSection) : Type 0 where
  pub key : OutputKey
  pub is : o ≡ Merged key
  pub listed : Contains (output_keys_of l) key
  pub type : is_template_type key.type ≡ true
  pub segment : key.segment ≡ n

abbrev AreTemplate : Link → List ℕ → OutputSection → Type 0
AreTemplate l n o = is_template_output l o ≡ true → IsTemplateOf l n o

merged_template : (l : Link) (n : List ℕ) (test : OutputKey → Bool) → All (AreTemplate l n) (merged_in l n test)
merged_template l n test k d lt template =
    let o = get_or (merged_in l n test) k d in
    let m = map_contains Merged (filter (λ key. bytes_eq key.segment n && test key) (output_keys_of l)) o
    (k, lt, get_or_default (merged_in l n test) k o d lt) in
    let f = filter_contains (λ (key : OutputKey). bytes_eq key.segment n && test key) (output_keys_of l) m.0 m.1 in
    record {
      key = m.0;
      is = sym m.2;
      listed = f.0;
      type = sym (template_key l m.0 f.0) ∙ ap (is_template_output l) m.2 ∙ template;
      segment = (bytes_eq-Decides m.0.segment n).0 (and_parts (bytes_eq m.0.segment n) (test m.0) f.1).0;
    }

made_template : (l : Link) (b : Bool) (n : List ℕ) (o : OutputSection) → is_template_output l o ≡ false
    → All (AreTemplate l n) (list_if b (o ∷ []))
made_template l true n o not_it zero d lt template = absurd (true≢false (sym template ∙ not_it))
made_template l true n o not_it (suc k) d lt template = absurd (omega (arith, lt))
made_template l false n o not_it k d lt template = absurd (omega (arith, lt))

pub each_template : (l : Link) (counts : Counts) (n : List ℕ) → All (AreTemplate l n) (output_sections_in l counts n)
each_template l counts n = by (bytes_eq n TEXT) (bytes_eq n DATA) refl refl
  where
    text : All (AreTemplate l TEXT) (sections_of_text l counts)
    text = All-append (AreTemplate l TEXT) _ _
        (All-append (AreTemplate l TEXT) _ _
        (All-append (AreTemplate l TEXT) _ _
        (All-append (AreTemplate l TEXT) _ _
        (All-append (AreTemplate l TEXT) _ _ (merged_template l TEXT _) (made_template l _ TEXT InitOffsets refl))
        (made_template l _ TEXT UnwindInfo refl)) (made_template l _ TEXT Stubs refl)) (merged_template l TEXT _))
        (merged_template l TEXT _)

    data_ : All (AreTemplate l DATA) (sections_of_data l)
    data_ = All-append (AreTemplate l DATA) _ _
        (All-append (AreTemplate l DATA) _ _
        (All-append (AreTemplate l DATA) _ _
        (All-append (AreTemplate l DATA) _ _ (merged_template l DATA _) (merged_template l DATA _)) (merged_template l DATA _))
        (merged_template l DATA _)) (merged_template l DATA _)

    other : All (AreTemplate l n) (sections_of_other l n)
    other = All-append (AreTemplate l n) _ _
        (All-append (AreTemplate l n) _ _ (made_template l _ n Slots refl) (merged_template l n _)) (merged_template l n _)

    by : (x y : Bool) → bytes_eq n TEXT ≡ x → bytes_eq n DATA ≡ y → All (AreTemplate l n) (output_sections_in l counts n)
    by true y e g = rw e (rw ((bytes_eq-Decides n TEXT).0 e) text)
    by false true e g = rw (e, g) (rw ((bytes_eq-Decides n DATA).0 g) data_)
    by false false e g = rw (e, g) other
