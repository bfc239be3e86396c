-- What symbols and relocations of a link lead to has a place in it.
--
-- A symbol that stands in a carried section stands inside it, by the rules of objects. A name's definition is a symbol of its name, a
-- library or the image: a common that defines its name is chosen, and a name that is used and that a library defines is imported. So
-- whatever is neither absolute nor nothing has a place.
use Rattle.std.proofs.Common.{◌≡◌, ℕ, ◌+◌, ◌-◌, ◌<◌, ◌⊎◌, ◌==◌, ◌&&◌, ◌||◌, nat_le, not, if◌then◌else◌, Bool, true, false, List, [], ◌∷◌, map, filter, refl, sym, ap, subst, ◌∙◌, arith, inl, inr, Option, Some, None}
use Rattle.std.specs.Prelude.{Contains}
use Rattle.std.specs.List.{position_or_len, filter_map}
use Rattle.std.specs.Str.{bytes_eq}
use Rattle.macho_model.specs.ObjectRules.{has_section}
use Rattle.std.proofs.lemmas.Bool.{cases_Bool, and_parts, and_from, eq-eqb, leb-true, ltb-true, true≢false}
use Rattle.macho_records.specs.Symbols.{is_common_of, is_stab_of, has_type, is_global}
use Rattle.macho_records.specs.declared.constants.TheConstants.{ARM64_RELOC_ADDEND, N_ABS, N_SECT, N_UNDF, N_EXT}
use Rattle.macho_records.specs.Flags.{has_any}
use Rattle.macho_model.specs.declared.targets.Target.{Target}
use Rattle.macho_model.specs.declared.targets.Target.TheVariants as target
use Rattle.macho_model.specs.Objects.{num_sections, num_symbols}
use Rattle.macho_model.specs.Links.{Link, SectionId, section_id, object_of, header_at, is_carried, sections_of, carried_of}
use Rattle.macho_model.specs.Resolution.{SymbolId, Definition, Symbol, Library, ImageBase, entry_at, name_at, same_symbol, symbols_of, section_of_symbol, stands_in_carried, has_name, strong_of, commons_of, greatest_of, libraries_with, definition_of, is_symbol, defines, chosen_commons}
use Rattle.macho_model.specs.steps.Resolved.{first_or, is_strong, is_weak, weak_of, DSO_HANDLE, is_library, first_definition}
use Rattle.macho_model.specs.LinkLaws.{is_chosen}
use Rattle.macho_model.specs.Needs.{imports_of, is_imported, relocation_in, section_named, symbol_of_relocation}
use Rattle.macho_model.specs.Uses.{Use, uses_of, name_used, global_name, target_with}
use Rattle.macho_model.specs.Targets.{own_target, definition_target, target_of, target_of_relocation}
use Rattle.macho_model.specs.Rows.{is_none}
use Rattle.macho_model.specs.Values.{is_absolute_target}
use Rattle.macho_image_laws.specs.Leads.{HasPlace}
use Rattle.macho_model.specs.Grammar.{ObjectsAreRead}
use Rattle.macho_model.proofs.Words.{place_of_symbol, target_of_symbol, target_of_section}
use Rattle.macho_image_laws.proofs.Distinct.{in_distinct}
use Rattle.macho_image_laws.proofs.Inputs.{IsObjectFile, IsSectionOf, section_listed, symbol_of_file, symbol_listed}
use Rattle.macho_model.proofs.Uses.{imports_are}
use Rattle.macho_model.proofs.Resolved.{definition_is_first}
use Rattle.macho_bytes.proofs.Comparing.{bytes_same, same_bytes}
use Rattle.macho_model.proofs.Definitions.{no_symbol_behind, symbol_found, common_is_chosen}
use Rattle.macho_bytes.proofs.Members.{contains_filter, filter_contains, position_below, contains_filter_map}
use Rattle.macho_model.proofs.FixedPointers.{left_true}

-- a section of a file by its number is carried where its header says so
carried_listed : (l : Link) (file k : ℕ) → IsObjectFile l file → k < num_sections (object_of l file)
    → is_carried (header_at l (section_id file k)) ≡ true
    → Contains (carried_of l) (section_id file k)
unfolding carried_of
carried_listed l file k f lt carried =
    contains_filter (λ (s : SectionId). is_carried (header_at l s)) (sections_of l) (section_id file k)
    (section_listed l file k f lt) carried

-- a symbol in a carried section has its place there
place_has : (l : Link) (t : SymbolId) → ObjectsAreRead l → Contains (symbols_of l) t → stands_in_carried l t ≡ true
    → HasPlace l (place_of_symbol l t)
place_has l t inputs one stands =
    let h = symbol_of_file l t inputs one in
    let both = and_parts (has_type N_SECT (entry_at l t)) (is_carried (header_at l (section_of_symbol l t))) stands in
    let numbered = left_true (has_type N_SECT (entry_at l t)) _ both.0 (h.file.object.o5.0 t.symbol h.within) in
    let exists = and_parts (nat_le 1 (entry_at l t).n_sect) (nat_le (entry_at l t).n_sect (num_sections (object_of l t.file))) numbered in
    let low = leb-true 1 (entry_at l t).n_sect exists.0 in
    let high = leb-true (entry_at l t).n_sect (num_sections (object_of l t.file)) exists.1 in
    let value = and_parts (nat_le (header_at l (section_of_symbol l t)).addr (entry_at l t).n_value)
    (nat_le (entry_at l t).n_value ((header_at l (section_of_symbol l t)).addr + (header_at l (section_of_symbol l t)).size))
    (left_true (has_type N_SECT (entry_at l t) && has_section (object_of l t.file) (entry_at l t).n_sect) _
    (and_from (has_type N_SECT (entry_at l t)) _ both.0 numbered) (h.file.object.o8 t.symbol h.within)) in
    let end = leb-true (entry_at l t).n_value ((header_at l (section_of_symbol l t)).addr + (header_at l (section_of_symbol l t)).size)
    value.1 in
    (carried_listed l t.file ((entry_at l t).n_sect - 1) h.file (omega (arith, low, high)) both.1, omega (arith, end))

-- where a symbol's own target leads
own_has : (l : Link) (t : SymbolId) → ObjectsAreRead l → Contains (symbols_of l) t
    → (is_common_of (entry_at l t) ≡ true → Contains (chosen_commons l) t) → is_none (own_target l t) ≡ false
    → is_absolute_target (own_target l t) ≡ false
    → HasPlace l (own_target l t)
own_has l t inputs one chosen some moves =
    elim (cases_Bool (stands_in_carried l t)) [
      | inl stands ↦
          let same : own_target l t ≡ place_of_symbol l t = first (stands_in_carried l t) (place_of_symbol l t) _ stands in
          subst (HasPlace l) (sym same) (place_has l t inputs one stands)
      | inr other ↦ elim (cases_Bool (has_type N_ABS (entry_at l t))) [
        | inl absolute ↦
            let same : own_target l t ≡ target.Absolute (entry_at l t).n_value =
            second (stands_in_carried l t) (place_of_symbol l t) _ other
            ∙ first (has_type N_ABS (entry_at l t)) (target.Absolute (entry_at l t).n_value) _ absolute in
            absurd (true≢false (sym (ap is_absolute_target same) ∙ moves))
        | inr relative ↦ elim (cases_Bool (is_common_of (entry_at l t))) [
          | inl common ↦
              let same : own_target l t ≡ target.Common (position_or_len (same_symbol t) (chosen_commons l)) =
              second (stands_in_carried l t) (place_of_symbol l t) _ other
              ∙ second (has_type N_ABS (entry_at l t)) (target.Absolute (entry_at l t).n_value) _ relative
              ∙ first (is_common_of (entry_at l t)) (target.Common (position_or_len (same_symbol t) (chosen_commons l))) target.None
              common in
              subst (HasPlace l) (sym same) (position_below (same_symbol t) (chosen_commons l) t (chosen common)
              (and_from (t.file == t.file) (t.symbol == t.symbol) (eq-eqb t.file t.file refl) (eq-eqb t.symbol t.symbol refl)))
          | inr none ↦
              let same : own_target l t ≡ target.None =
              second (stands_in_carried l t) (place_of_symbol l t) _ other
              ∙ second (has_type N_ABS (entry_at l t)) (target.Absolute (entry_at l t).n_value) _ relative
              ∙ second (is_common_of (entry_at l t)) (target.Common (position_or_len (same_symbol t) (chosen_commons l))) target.None
              none in
              absurd (true≢false (sym (ap is_none same) ∙ some))
        ]
      ]
    ]
  where
    first : (b : Bool) (x y : Target) → b ≡ true → (if b then x else y) ≡ x
    first b x y is = rw is refl

    second : (b : Bool) (x y : Target) → b ≡ false → (if b then x else y) ≡ y
    second b x y is = rw is refl

pub symbol_defines : (l : Link) (name : List ℕ) (t : SymbolId) → definition_of l name ≡ Some (Symbol t)
    → Contains (symbols_of l) t × (has_name l name t ≡ true)
unfolding first_definition strong_of weak_of greatest_of commons_of
symbol_defines l name t h =
    elim (symbol_found (strong_of l name) _ t (sym (definition_is_first l name) ∙ h)) [
      | inl strong ↦
          let f = filter_contains (λ (s : SymbolId). is_strong l s && has_name l name s) (symbols_of l) t strong in
          (f.0, (and_parts (is_strong l t) (has_name l name t) f.1).1)
      | inr h2 ↦ elim (symbol_found (weak_of l name) _ t h2) [
        | inl weak ↦
            let f = filter_contains (λ (s : SymbolId). is_weak l s && has_name l name s) (symbols_of l) t weak in
            (f.0, (and_parts (is_weak l t) (has_name l name t) f.1).1)
        | inr h3 ↦ elim (symbol_found (greatest_of l name) _ t h3) [
          | inl greatest ↦
              let g = filter_contains _ (commons_of l name) t greatest in
              let f = filter_contains (λ (s : SymbolId). is_common_of (entry_at l s) && has_name l name s) (symbols_of l) t g.0 in
              (f.0, (and_parts (is_common_of (entry_at l t)) (has_name l name t) f.1).1)
          | inr h4 ↦ absurd (no_symbol_behind (libraries_with l name) (bytes_eq name DSO_HANDLE) t h4)
        ]
      ]
    ]

-- what a definition leads to, where a name that a library defines is imported
definition_has : (l : Link) (name : List ℕ) → ObjectsAreRead l → (is_imported l name ≡ true → Contains (imports_of l) name)
    → (d : Option Definition)
    → definition_of l name ≡ d → is_none (definition_target l (imports_of l) name d) ≡ false
    → is_absolute_target (definition_target l (imports_of l) name d) ≡ false → HasPlace l (definition_target l (imports_of l) name d)
definition_has l name inputs used None is some moves = absurd (true≢false some)
definition_has l name inputs used (Some (Symbol t)) is some moves =
    own_has l t inputs (symbol_defines l name t is).0 (common_is_chosen l name t is) some moves
definition_has l name inputs used (Some (Library file)) is some moves =
    position_below (bytes_eq name) (imports_of l) name (used (ap is_library is)) (bytes_same name)
definition_has l name inputs used (Some ImageBase) is some moves = tt

-- a name that is used and that a library defines is imported
used_is_imported : (l : Link) (u : Use) (name : List ℕ) → Contains (uses_of l) u → name_used l u ≡ Some name → is_imported l name ≡ true
    → Contains (imports_of l) name
used_is_imported l u name one named imported =
    subst (λ (ns : List (List ℕ)). Contains ns name) (sym (imports_are l))
    (in_distinct bytes_eq same_bytes (filter (is_imported l) (filter_map (name_used l) (uses_of l))) name
    (contains_filter (is_imported l) (filter_map (name_used l) (uses_of l)) name
    (contains_filter_map (name_used l) (uses_of l) u name one named) imported))

-- THE target of a symbol that is used
symbol_has : (l : Link) (s : SymbolId) → ObjectsAreRead l → Contains (symbols_of l) s
    → ((name : List ℕ) → global_name l (Some s) ≡ Some name → is_imported l name ≡ true → Contains (imports_of l) name)
    → is_none (target_of l s) ≡ false
    → is_absolute_target (target_of l s) ≡ false → HasPlace l (target_of l s)
unfolding target_of
symbol_has l s inputs one used some moves =
    elim (cases_Bool (is_global (entry_at l s))) [
      | inl global ↦
          let named : global_name l (Some s) ≡ Some (name_at l s) = rw global refl in
          let same : target_with l (imports_of l) s ≡ definition_target l (imports_of l) (name_at l s) (definition_of l (name_at l s)) =
          first (is_global (entry_at l s)) (definition_target l (imports_of l) (name_at l s) (definition_of l (name_at l s))) _ global in
          subst (HasPlace l) (sym same)
          (definition_has l (name_at l s) inputs (used (name_at l s) named) (definition_of l (name_at l s)) refl
          (sym (ap is_none same) ∙ some)
          (sym (ap is_absolute_target same) ∙ moves))
      | inr other ↦
          let same : target_with l (imports_of l) s ≡ own_target l s =
          second (is_global (entry_at l s)) (definition_target l (imports_of l) (name_at l s) (definition_of l (name_at l s))) _ other in
          subst (HasPlace l) (sym same)
          (own_has l s inputs one (λ common. absurd (true≢false (sym (global_common common) ∙ other))) (sym (ap is_none same) ∙ some)
          (sym (ap is_absolute_target same) ∙ moves))
    ]
  where
    first : (b : Bool) (x y : Target) → b ≡ true → (if b then x else y) ≡ x
    first b x y is = rw is refl

    second : (b : Bool) (x y : Target) → b ≡ false → (if b then x else y) ≡ y
    second b x y is = rw is refl

    global_common : is_common_of (entry_at l s) ≡ true → is_global (entry_at l s) ≡ true
    global_common common =
        let parts = and_parts (has_type N_UNDF (entry_at l s)) (has_any N_EXT (entry_at l s).n_type)
        (and_parts (has_type N_UNDF (entry_at l s) && has_any N_EXT (entry_at l s).n_type) (not ((entry_at l s).n_value == 0)) common).0 in
        and_from (not (is_stab_of (entry_at l s))) (has_any N_EXT (entry_at l s).n_type)
        (and_parts (not (is_stab_of (entry_at l s))) _ parts.0).0 parts.1

-- THE target of a relocation of a section, whose use is walked over
pub relocation_has : (l : Link) (s : SectionId) (r : ℕ) (u : Use) → ObjectsAreRead l → IsSectionOf l s → r < (header_at l s).nreloc
    → Contains (uses_of l) u
    → name_used l u ≡ global_name l (symbol_of_relocation l s r) → ((relocation_in l s r).r_type == ARM64_RELOC_ADDEND) ≡ false
    → is_none (target_of_relocation l s r) ≡ false → is_absolute_target (target_of_relocation l s r) ≡ false
    → HasPlace l (target_of_relocation l s r)
unfolding target_of_relocation
relocation_has l s r u inputs h within one names plain some moves =
    elim (cases_Bool (relocation_in l s r).r_extern) [
      | inl extern ↦
          let symbol : SymbolId = record { file = s.file; symbol = (relocation_in l s r).r_symbolnum } in
          let is : symbol_of_relocation l s r ≡ Some symbol = rw (extern, plain) refl in
          let same : (if (relocation_in l s r).r_extern then target_of_symbol l (symbol_of_relocation l s r) else target_of_section l
          (section_named l s r)) ≡ target_of l symbol =
          first (relocation_in l s r).r_extern (target_of_symbol l (symbol_of_relocation l s r))
          (target_of_section l (section_named l s r)) extern
          ∙ ap (target_of_symbol l) is in
          let number : (relocation_in l s r).r_symbolnum < num_symbols (object_of l s.file) =
          ltb-true (relocation_in l s r).r_symbolnum (num_symbols (object_of l s.file))
          (rw extern at (h.file.object.o5.1 s.section r h.within within)) in
          subst (HasPlace l) (sym same)
          (symbol_has l symbol inputs (symbol_listed l s.file (relocation_in l s r).r_symbolnum h.file number)
          (λ name named. used_is_imported l u name one (names ∙ ap (global_name l) is ∙ named)) (sym (ap is_none same) ∙ some)
          (sym (ap is_absolute_target same) ∙ moves))
      | inr local ↦ by_section local
    ]
  where
    first : (b : Bool) (x y : Target) → b ≡ true → (if b then x else y) ≡ x
    first b x y is = rw is refl

    second : (b : Bool) (x y : Target) → b ≡ false → (if b then x else y) ≡ y
    second b x y is = rw is refl

    by_section : (relocation_in l s r).r_extern ≡ false
        → HasPlace l (if (relocation_in l s r).r_extern then target_of_symbol l (symbol_of_relocation l s r) else target_of_section l
        (section_named l s r))
    by_section local =
        let named : SectionId = section_named l s r in
        let same : (if (relocation_in l s r).r_extern then target_of_symbol l (symbol_of_relocation l s r) else target_of_section l
        (section_named l s r)) ≡ target_of_section l (section_named l s r) =
        second (relocation_in l s r).r_extern (target_of_symbol l (symbol_of_relocation l s r))
        (target_of_section l (section_named l s r)) local in
        let exists : (nat_le 1 (relocation_in l s r).r_symbolnum && nat_le (relocation_in l s r).r_symbolnum
        (num_sections (object_of l s.file))) ≡ true =
        rw (local, plain) at (h.file.object.o5.1 s.section r h.within within) in
        let both = and_parts (nat_le 1 (relocation_in l s r).r_symbolnum)
        (nat_le (relocation_in l s r).r_symbolnum (num_sections (object_of l s.file))) exists in
        let low = leb-true 1 (relocation_in l s r).r_symbolnum both.0 in
        let high = leb-true (relocation_in l s r).r_symbolnum (num_sections (object_of l s.file)) both.1 in
        elim (cases_Bool (is_carried (header_at l (section_named l s r)))) [
          | inl carried ↦
              let at : target_of_section l (section_named l s r) ≡ target.Section s.file ((relocation_in l s r).r_symbolnum - 1) 0 =
              first (is_carried (header_at l (section_named l s r))) (target.Section s.file ((relocation_in l s r).r_symbolnum - 1) 0)
              target.None carried in
              subst (HasPlace l) (sym (same ∙ at))
              (carried_listed l s.file ((relocation_in l s r).r_symbolnum - 1) h.file (omega (arith, low, high)) carried, omega arith)
          | inr other ↦
              let at : target_of_section l (section_named l s r) ≡ target.None =
              second (is_carried (header_at l (section_named l s r))) (target.Section s.file ((relocation_in l s r).r_symbolnum - 1) 0)
              target.None other in
              absurd (true≢false (sym (ap is_none (same ∙ at)) ∙ some))
        ]
