-- A sound link of real inputs leads: its fields lie in their sections, and slots and pointers lead to what has a place.
--
-- Fields and sections of zeros keep the rules of objects. A pointer that the loader writes is supported, so it leads somewhere, and not
-- to an absolute value. A slot is asked for by a use: of a supported relocation, which leads to what moves or is imported; or of a
-- personality function, which by its rule does too.
use Rattle.std.proofs.Common.{◌≡◌, ℕ, ◌+◌, ◌*◌, ◌/◌, ◌<◌, ◌≤◌, ◌==◌, ◌&&◌, ◌||◌, not, if◌then◌else◌, Bool, true, false, List, [], ◌∷◌, ◌++◌, get_or, map, filter, refl, sym, ap, subst, ◌∙◌, arith, inl, inr, Some, None, All}
use Rattle.std.specs.Prelude.{Contains}
use Rattle.std.specs.List.{flat_map, filter_map, list_all, range_with_len}
use Rattle.std.proofs.lemmas.Bool.{cases_Bool, cases_eq, and_parts, or_cases, or_parts, or_right, eqb-true, ne_eqb, leb-true, true≢false}
use Rattle.std.proofs.lemmas.List.Elements.{All-contains_itself, Contains-append_cases}
use Rattle.std.proofs.lemmas.List.FromFn.{length-range_with_len, get_or-range_with_len}
use Rattle.macho_records.specs.Sections.{is_zerofill, should_exclude_of}
use Rattle.macho_records.specs.declared.constants.TheConstants.{ARM64_RELOC_ADDEND, ARM64_RELOC_POINTER_TO_GOT, ARM64_RELOC_SUBTRACTOR}
use Rattle.macho_model.specs.declared.targets.Target.{Target}
use Rattle.macho_model.specs.declared.targets.Target.TheVariants as target
use Rattle.macho_model.specs.ExportLists.{plain_entries}
use Rattle.macho_model.specs.Links.{Link, SectionId, header_at, is_carried, is_unwind_entries, sections_of, carried_of}
use Rattle.macho_model.specs.Needs.{distinct, is_imported, relocation_in, section_named, symbol_of_relocation, relocations_of, relocations_at, initializer_sections, unwind_sections, UNWIND_ENTRY_SIZE, PERSONALITY_PLACE}
use Rattle.macho_model.specs.Uses.{Use, ByRelocation, ByInitializer, ByPersonality, ByName, uses_of, carried_uses, initializer_uses, personality_uses, goes_by_slot, slot_of_use}
use Rattle.macho_model.specs.Targets.{is_import, is_defined, same_target, slots_of, target_of_relocation}
use Rattle.macho_model.specs.Fields.{Field, field_of, fields_of, is_prefix_type}
use Rattle.macho_model.specs.Rows.{is_none, has_form, defined_or_import, is_supported}
use Rattle.macho_model.specs.Consumed.{entry_count, relocations_in_entry}
use Rattle.macho_model.specs.SlideLaws.{targets_move}
use Rattle.macho_model.specs.Supported.{RelocationsAreSupported}
use Rattle.macho_model.specs.Values.{is_absolute_target, needs_fixup}
use Rattle.macho_image_laws.specs.Leads.{HasPlace, TargetsLead, PersonalitiesFit}
use Rattle.macho_model.specs.Grammar.{ObjectsAreRead}
use Rattle.macho_model.proofs.Words.{target_of_symbol, target_of_section}
use Rattle.macho_image_laws.proofs.Fits.{field_number, field_fits_in, fixed_pointer}
use Rattle.macho_image_laws.proofs.Inputs.{IsSectionOf, section_of_file}
use Rattle.macho_image_laws.proofs.Targets.{relocation_has}
use Rattle.macho_model.proofs.Uses.{slots_are}
use Rattle.macho_bytes.proofs.Members.{contains_cases, nil_contains, map_contains, filter_contains, flat_map_contains, range_contains, filter_map_contains}
use Rattle.macho_model.proofs.Distinct.{distinct_contains}
use Rattle.macho_model.proofs.Sections.{carried_use}

-- a carried section is one of an object
pub carried_section : (l : Link) (s : SectionId) → ObjectsAreRead l → Contains (carried_of l) s → IsSectionOf l s
unfolding carried_of
carried_section l s inputs one = section_of_file l s inputs (filter_contains (λ (t : SectionId). is_carried (header_at l t))
    (sections_of l) s one).0

-- fields lie inside, and zeros have none
pub field_inside_section : (l : Link) (s : SectionId) (f : Field) → ObjectsAreRead l → Contains (carried_of l) s
    → Contains (fields_of l s) f → f.offset + f.width ≤ (header_at l s).size
field_inside_section l s f inputs one field =
    let h = carried_section l s inputs one in
    let n = field_number l s f field in
    let fits = h.file.object.o10.1 s.section n.number h.within n.within in
    subst (λ (g : Field). g.offset + g.width ≤ (header_at l s).size) n.is
    (leb-true ((field_of l s n.number).offset + (field_of l s n.number).width) (header_at l s).size fits)

no_fields : (l : Link) (s : SectionId) → ObjectsAreRead l → Contains (carried_of l) s → is_zerofill (header_at l s) ≡ true
    → fields_of l s ≡ []
unfolding fields_of
no_fields l s inputs one zerofill =
    let h = carried_section l s inputs one in
    let test : (not true || ((header_at l s).nreloc == 0)) ≡ true = rw zerofill at (h.file.object.o12 s.section h.within) in
    let none = eqb-true (header_at l s).nreloc 0 test in
    ap (λ (n : ℕ). map (field_of l s) (filter (λ r. not (is_prefix_type (relocation_in l s r).r_type)) (range_with_len 0 n))) none

-- a pointer that the loader writes leads to what has a place
pub plain_type : (t : ℕ) → is_prefix_type t ≡ false → (t == ARM64_RELOC_ADDEND) ≡ false
plain_type t h = (or_parts (t == ARM64_RELOC_SUBTRACTOR) (t == ARM64_RELOC_ADDEND) h).1

pointer_leads : (l : Link) (s : SectionId) (f : Field) → ObjectsAreRead l → RelocationsAreSupported l → Contains (carried_of l) s
    → Contains (fields_of l s) f
    → needs_fixup l s f ≡ true → HasPlace l f.target
pointer_leads l s f inputs sound one field needs =
    let n = field_number l s f field in
    let fixed = fixed_pointer l s f needs in
    let target_is : (field_of l s n.number).target ≡ f.target = ap (λ (g : Field). g.target) n.is in
    let some : is_none f.target ≡ false = elim (field_fits_in l s f sound one field) [
      | inl pointer ↦ pointer.leads
      | inr moves ↦ let no : false ≡ true = sym (ap (targets_move f) fixed.1) ∙ moves in absurd (true≢false (sym no))
    ] in
    subst (HasPlace l) target_is
    (relocation_has l s n.number (ByRelocation s n.number) inputs (carried_section l s inputs one) n.within
    (carried_use l s n.number one n.within) refl
    (plain_type (relocation_in l s n.number).r_type n.whole) (ap is_none target_is ∙ some) (ap is_absolute_target target_is ∙ fixed.3))

-- what moves or is imported is neither nothing nor absolute
pub somewhere : (t : Target) → defined_or_import t ≡ true → (is_none t ≡ false) × (is_absolute_target t ≡ false)
somewhere (target.Section file section offset) h = (refl, refl)
somewhere (target.Common id) h = (refl, refl)
somewhere (target.Import id) h = (refl, refl)
somewhere target.Base h = (refl, refl)
somewhere (target.Absolute value) h = absurd (true≢false (sym h))
somewhere target.None h = absurd (true≢false (sym h))

-- a slot that a supported relocation asks for
asked_slot : (b : Bool) (t x : Target) → (if b then Some t else None) ≡ Some x → (b ≡ true) × (t ≡ x)
asked_slot true t x h = (refl, cc)
asked_slot false t x h = absurd (cc)

got_leads : (l : Link) (s : SectionId) (r : ℕ) → (relocation_in l s r).r_type ≡ ARM64_RELOC_POINTER_TO_GOT → is_supported l s r ≡ true
    → defined_or_import (target_of_relocation l s r) ≡ true
unfolding is_supported
got_leads l s r is h =
    let fits : (has_form (relocation_in l s r) 2 true true && defined_or_import (target_of_relocation l s r)) ≡ true = rw is at h in
    (and_parts (has_form (relocation_in l s r) 2 true true) (defined_or_import (target_of_relocation l s r)) fits).1

slot_leads : (l : Link) (s : SectionId) (r : ℕ) → is_supported l s r ≡ true
    → (((relocation_in l s r).r_type == ARM64_RELOC_POINTER_TO_GOT) || (goes_by_slot (relocation_in l s r).r_type && is_import
    (target_of_relocation l s r))) ≡ true
    → defined_or_import (target_of_relocation l s r) ≡ true
slot_leads l s r supported h =
    elim (or_cases ((relocation_in l s r).r_type == ARM64_RELOC_POINTER_TO_GOT)
    (goes_by_slot (relocation_in l s r).r_type && is_import (target_of_relocation l s r)) h) [
      | inl got ↦ got_leads l s r (eqb-true (relocation_in l s r).r_type ARM64_RELOC_POINTER_TO_GOT got) supported
      | inr by_slot ↦ or_right (is_defined (target_of_relocation l s r)) (is_import (target_of_relocation l s r))
          (and_parts (goes_by_slot (relocation_in l s r).r_type) (is_import (target_of_relocation l s r)) by_slot).1
    ]

no_addend : (t : ℕ) (b : Bool) → ((t == ARM64_RELOC_POINTER_TO_GOT) || (goes_by_slot t && b)) ≡ true → (t == ARM64_RELOC_ADDEND) ≡ false
no_addend t b h = elim (cases_eq t ARM64_RELOC_ADDEND) [
  | inl is ↦ let no : false ≡ true = rw is at h in absurd (true≢false (sym no))
  | inr other ↦ ne_eqb t ARM64_RELOC_ADDEND other
]

-- a test of all elements is one of each
pub each_passes : (p : ℕ → Bool) (xs : List ℕ) (x : ℕ) → list_all p xs ≡ true → Contains xs x → p x ≡ true
each_passes p [] x all one = absurd (nil_contains x one)
each_passes p (y ∷ xs) x all one = elim (contains_cases y xs x one) [
  | inl here ↦ ap p (sym here) ∙ (and_parts (p y) (list_all p xs) all).0
  | inr there ↦ each_passes p xs x (and_parts (p y) (list_all p xs) all).1 there
]

-- a section of unwind entries is one of an object
pub unwind_section : (l : Link) (s : SectionId) → ObjectsAreRead l → Contains (unwind_sections l) s → IsSectionOf l s
unfolding unwind_sections
unwind_section l s inputs one =
    section_of_file l s inputs (filter_contains (λ (t : SectionId). not (should_exclude_of (header_at l t)) && is_unwind_entries
    (header_at l t))
    (sections_of l) s one).0

-- a relocation that names a symbol is no addend
pub named_type : (l : Link) (s : SectionId) (r : ℕ) → (relocation_in l s r).r_extern ≡ true
    → defined_or_import (target_of_relocation l s r) ≡ true
    → ((relocation_in l s r).r_type == ARM64_RELOC_ADDEND) ≡ false
unfolding target_of_relocation
named_type l s r extern h =
    elim (cases_Bool ((relocation_in l s r).r_type == ARM64_RELOC_ADDEND)) [
      | inl addend ↦
          let none : symbol_of_relocation l s r ≡ None = rw (extern, addend) refl in
          let leads : (if (relocation_in l s r).r_extern then target_of_symbol l (symbol_of_relocation l s r) else target_of_section l
          (section_named l s r)) ≡ target.None =
          ap (λ (b : Bool). if b then target_of_symbol l (symbol_of_relocation l s r) else target_of_section l (section_named l s r)) extern
          ∙ ap (target_of_symbol l) none in
          absurd (true≢false (sym h ∙ ap defined_or_import leads))
      | inr other ↦ other
    ]

-- THE targets of slots
use_leads : (l : Link) (u : Use) (t : Target) → ObjectsAreRead l → RelocationsAreSupported l → PersonalitiesFit l → Contains (uses_of l) u
    → slot_of_use l u ≡ Some t → HasPlace l t
unfolding uses_of
use_leads l u t inputs sound fit one asks =
    elim (Contains-append_cases
    (flat_map (carried_uses l) (carried_of l) ++ flat_map (initializer_uses l) (initializer_sections l) ++ flat_map (personality_uses l)
    (unwind_sections l))
    (map ByName (filter (is_imported l) (plain_entries l.export_lists))) u one) [
      | inr named ↦
          let m = map_contains ByName (filter (is_imported l) (plain_entries l.export_lists)) u named in
          let no : None ≡ Some t = ap (slot_of_use l) m.2 ∙ asks in absurd (cc)
      | inl walked ↦ elim (Contains-append_cases (flat_map (carried_uses l) (carried_of l) ++ flat_map (initializer_uses l)
          (initializer_sections l))
          (flat_map (personality_uses l) (unwind_sections l)) u walked) [
            | inr person ↦ of_personality person
            | inl others ↦ elim (Contains-append_cases (flat_map (carried_uses l) (carried_of l))
                (flat_map (initializer_uses l) (initializer_sections l)) u others) [
                  | inl carried ↦ of_carried carried
                  | inr initial ↦ of_initializer initial
                ]
          ]
    ]
  where
    of_initializer : Contains (flat_map (initializer_uses l) (initializer_sections l)) u → HasPlace l t
    of_initializer initial =
        let m = flat_map_contains (initializer_uses l) (initializer_sections l) u initial in
        let n = flat_map_contains (λ slot. map (ByInitializer m.0) (relocations_at l m.0 (8 * slot)))
        (range_with_len 0 ((header_at l m.0).size / 8)) u m.2 in
        let r = map_contains (ByInitializer m.0) (relocations_at l m.0 (8 * n.0)) u n.2 in
        let no : None ≡ Some t = ap (slot_of_use l) r.2 ∙ asks in absurd (cc)

    of_carried : Contains (flat_map (carried_uses l) (carried_of l)) u → HasPlace l t
    of_carried carried =
        let m = flat_map_contains (carried_uses l) (carried_of l) u carried in
        let r = map_contains (ByRelocation m.0) (relocations_of l m.0) u m.2 in
        let n = (header_at l m.0).nreloc in
        let lt : r.1.0 < n = omega (arith, r.1.1, length-range_with_len 0 n) in
        let at : 0 + r.1.0 ≡ r.0 = sym (get_or-range_with_len 0 n r.1.0 r.0 lt) ∙ r.1.2 in
        let within : r.0 < n = omega (arith, lt, at) in
        let a = asked_slot (((relocation_in l m.0 r.0).r_type == ARM64_RELOC_POINTER_TO_GOT) ||
        (goes_by_slot (relocation_in l m.0 r.0).r_type && is_import (target_of_relocation l m.0 r.0)))
        (target_of_relocation l m.0 r.0) t (ap (slot_of_use l) r.2 ∙ asks) in
        let lead = somewhere (target_of_relocation l m.0 r.0) (slot_leads l m.0 r.0 (sound.supported m.0 r.0 m.1 within) a.0) in
        subst (HasPlace l) a.1
        (relocation_has l m.0 r.0 (ByRelocation m.0 r.0) inputs (carried_section l m.0 inputs m.1) within
        (carried_use l m.0 r.0 m.1 within) refl
        (no_addend (relocation_in l m.0 r.0).r_type (is_import (target_of_relocation l m.0 r.0)) a.0) lead.0 lead.1)

    of_personality : Contains (flat_map (personality_uses l) (unwind_sections l)) u → HasPlace l t
    of_personality person =
        let m = flat_map_contains (personality_uses l) (unwind_sections l) u person in
        let count = entry_count l m.0 in
        let n = flat_map_contains (λ entry. map (ByPersonality m.0) (relocations_at l m.0 (UNWIND_ENTRY_SIZE * entry + PERSONALITY_PLACE)))
        (range_with_len 0 count) u m.2 in
        let r = map_contains (ByPersonality m.0) (relocations_at l m.0 (UNWIND_ENTRY_SIZE * n.0 + PERSONALITY_PLACE)) u n.2 in
        let f = filter_contains (λ x. (relocation_in l m.0 x).r_address == UNWIND_ENTRY_SIZE * n.0 + PERSONALITY_PLACE)
        (relocations_of l m.0) r.0 r.1 in
        let within = range_contains (header_at l m.0).nreloc r.0 f.0 in
        let asked : Some (target_of_relocation l m.0 r.0) ≡ Some t = ap (slot_of_use l) r.2 ∙ asks in
        let is : target_of_relocation l m.0 r.0 ≡ t = cc in
        let rule = (and_parts (list_all (λ x. (relocation_in l m.0 x).r_extern &&
        (is_defined (target_of_relocation l m.0 x) || is_import (target_of_relocation l m.0 x)))
        (relocations_in_entry l m.0 n.0 PERSONALITY_PLACE)) _ (fit.each m.0 n.0 m.1 (range_contains count n.0 n.1))).0 in
        let both = and_parts (relocation_in l m.0 r.0).r_extern (is_defined (target_of_relocation l m.0 r.0) || is_import
        (target_of_relocation l m.0 r.0))
        (each_passes (λ x. (relocation_in l m.0 x).r_extern && (is_defined (target_of_relocation l m.0 x) || is_import
        (target_of_relocation l m.0 x)))
        (relocations_in_entry l m.0 n.0 PERSONALITY_PLACE) r.0 rule r.1) in
        let lead = somewhere (target_of_relocation l m.0 r.0) both.1 in
        subst (HasPlace l) is
        (relocation_has l m.0 r.0 (ByPersonality m.0 r.0) inputs (unwind_section l m.0 inputs m.1) within
        (subst (λ (x : Use). Contains (uses_of l) x) (sym r.2) one) refl
        (named_type l m.0 r.0 both.0 both.1) lead.0 lead.1)

slots_lead : (l : Link) → ObjectsAreRead l → RelocationsAreSupported l → PersonalitiesFit l → All (HasPlace l) (slots_of l)
slots_lead l inputs sound fit = subst (All (HasPlace l)) (sym (slots_are l)) each
  where
    each : All (HasPlace l) (distinct same_target (filter_map (slot_of_use l) (uses_of l)))
    each k d lt =
        let t = get_or (distinct same_target (filter_map (slot_of_use l) (uses_of l))) k d in
        let there = distinct_contains same_target (filter_map (slot_of_use l) (uses_of l)) t
        (All-contains_itself (distinct same_target (filter_map (slot_of_use l) (uses_of l))) k d lt) in
        let u = filter_map_contains (slot_of_use l) (uses_of l) t there in
        use_leads l u.0 t inputs sound fit u.1 u.2

-- THE link leads.
pub link_leads : (l : Link) → ObjectsAreRead l → RelocationsAreSupported l → PersonalitiesFit l → TargetsLead l
link_leads l inputs sound fit = record {
  slots = slots_lead l inputs sound fit;
  pointers = λ s f one field needs. pointer_leads l s f inputs sound one field needs;
  inside = λ s f one field. field_inside_section l s f inputs one field;
  zeros = λ s one zerofill. no_fields l s inputs one zerofill;
}
