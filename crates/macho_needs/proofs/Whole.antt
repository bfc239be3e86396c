-- All uses. Those of carried sections ask for entries of their own as their fields do, since a relocation that is part of
-- another one's field is no pointer; initializers, personalities and names of lists ask for none. So the lists are the model's.
use Rattle.std.proofs.Common.{◌≡◌, ◌+◌, ◌*◌, ◌/◌, ◌⊎◌, inl, inr, ℕ, Bool, true, false, cond, not, ◌==◌, ◌&&◌, ◌||◌, List, [], ◌∷◌, ◌++◌, map, filter, Option, Some, None, is_none, is_some, All, refl, sym, ap, ◌∙◌, subst, append-nil, append_assoc, if◌then◌else◌}
use Rattle.std.specs.List.{flat_map, filter_map, cons_option, range_with_len, list_any}
use Rattle.std.specs.Str.{bytes_eq}
use Rattle.std.proofs.lemmas.Bool.{eqb-true}
use Rattle.std.proofs.lemmas.List.Elements.{All-push, filter_map-append}
use Rattle.macho_records.specs.declared.constants.TheConstants.{ARM64_RELOC_ADDEND, ARM64_RELOC_SUBTRACTOR}
use Rattle.macho_model.specs.declared.targets.Target.{Target}
use Rattle.macho_model.specs.Links.{Link, SectionId, header_at, carried_of}
use Rattle.macho_model.specs.Resolution.{definition_of, name_at}
use Rattle.macho_model.specs.ExportLists.{plain_entries}
use Rattle.macho_model.specs.Needs.{initializer_sections, unwind_sections, is_imported, relocation_in, relocations_of, relocations_at, distinct, POINTER_SIZE, UNWIND_ENTRY_SIZE, PERSONALITY_PLACE}
use Rattle.macho_model.specs.Uses.{Use, ByRelocation, ByInitializer, ByPersonality, ByName, uses_of, carried_uses, initializer_uses, personality_uses, slot_of_use, stub_of_use}
use Rattle.macho_model.specs.Targets.{same_target, target_of_relocation}
use Rattle.macho_model.specs.Fields.{Field, field_of, fields_of, is_prefix_type, addend_of, width_of}
use Rattle.macho_model.specs.Fixups.{same_entry, own_entry, own_entries}
use Rattle.macho_model.specs.Values.{is_pointer}
use Rattle.macho_model.proofs.Words.{subtrahend_of}
use Rattle.macho_symbols.specs.Kept.{IsResolved}
use Rattle.macho_promise.specs.Noted.{imports_in, slots_in, stubs_in}
use Rattle.macho_needs.specs.declared.needs.Needs.{Needs}
use Rattle.macho_needs.specs.Tables.{Numbered}
use Rattle.macho_needs.specs.Noted.{IsNoted, IsFound, own_of_use, own_in}
use Rattle.macho_needs.specs.Laws.{NeedsAreWhole, NamesAreFoundThen, NamesAreNoted, NameIsNoted}
use Rattle.macho_needs.proofs.Growing.{imports_more, with_name}
use Rattle.macho_model.proofs.Uses.{imports_are, slots_are, stubs_are, flat_alike, asked_map}
use Rattle.macho_needs.proofs.Undefined.{undefined_has_use}

-- what is asked for in lists that are made of others
asked_flat : {X Y Z : Type 0} (h : Y → Option Z) (f : X → List Y) (xs : List X)
    → filter_map h (flat_map f xs) ≡ flat_map (λ x. filter_map h (f x)) xs
asked_flat h f [] = refl
asked_flat h f (x ∷ xs) = filter_map-append h (f x) (flat_map f xs) ∙ ap (λ zs. filter_map h (f x) ++ zs) (asked_flat h f xs)

asked_none : {X Z : Type 0} (h : X → Option Z) (xs : List X) → ((x : X) → h x ≡ None) → filter_map h xs ≡ []
asked_none h [] none = refl
asked_none h (x ∷ xs) none = ap (λ o. cons_option o (filter_map h xs)) (none x) ∙ asked_none h xs none

flat_none : {X Y : Type 0} (f : X → List Y) (xs : List X) → ((x : X) → f x ≡ []) → flat_map f xs ≡ []
flat_none f [] none = refl
flat_none f (x ∷ xs) none = ap (λ zs. zs ++ flat_map f xs) (none x) ∙ flat_none f xs none

nested_none : {Z : Type 0} (h : Use → Option Z) (g : SectionId → ℕ → Use) (numbers : SectionId → List ℕ) (each : SectionId → ℕ → List ℕ)
    (ss : List SectionId)
    → ((s : SectionId) (r : ℕ) → h (g s r) ≡ None) → filter_map h (flat_map (λ s. flat_map (λ k. map (g s) (each s k)) (numbers s)) ss) ≡ []
nested_none h g numbers each ss none =
    asked_flat h (λ s. flat_map (λ k. map (g s) (each s k)) (numbers s)) ss
    ∙ flat_none (λ s. filter_map h (flat_map (λ k. map (g s) (each s k)) (numbers s))) ss
    (λ s. asked_flat h (λ k. map (g s) (each s k)) (numbers s)
    ∙ flat_none (λ k. filter_map h (map (g s) (each s k))) (numbers s)
    (λ k. asked_map h (g s) (each s k) ∙ asked_none (λ r. h (g s r)) (each s k) (none s)))

named_none : {Z : Type 0} (h : Use → Option Z) (names : List (List ℕ)) → ((name : List ℕ) → h (ByName name) ≡ None)
    → filter_map h (map ByName names) ≡ []
named_none h names none = asked_map h ByName names ∙ asked_none (λ name. h (ByName name)) names none

-- names add nothing
named_same : {Z : Type 0} (h : Use → Option Z) (us : List Use) (names : List (List ℕ)) → ((name : List ℕ) → h (ByName name) ≡ None)
    → filter_map h (us ++ map ByName names) ≡ filter_map h us
named_same h us names none =
    filter_map-append h us (map ByName names) ∙ ap (λ zs. filter_map h us ++ zs) (named_none h names none) ∙ append-nil (filter_map h us)

asked_kept : {X Z : Type 0} (h : X → Option Z) (p : X → Bool) (xs : List X) → ((x : X) → p x ≡ false → h x ≡ None)
    → filter_map h (filter p xs) ≡ filter_map h xs
asked_kept h p [] none = refl
asked_kept {X} {Z} h p (x ∷ xs) none = by (asked_kept h p xs none) (p x) refl
  where
    by : filter_map h (filter p xs) ≡ filter_map h xs → (b : Bool) → p x ≡ b
        → filter_map h (cond b (x ∷ filter p xs) (filter p xs)) ≡ cons_option (h x) (filter_map h xs)
    by rest true e = ap (λ zs. cons_option (h x) zs) rest
    by rest false e = rest ∙ sym (ap (λ o. cons_option o (filter_map h xs)) (none x e))

-- a relocation that is part of another one's field asks for no entry
prefix_none : (l : Link) (s : SectionId) (r : ℕ) → is_prefix_type (relocation_in l s r).r_type ≡ true
    → own_of_use l (ByRelocation s r) ≡ None
prefix_none l s r prefix = by ((relocation_in l s r).r_type == ARM64_RELOC_SUBTRACTOR) refl
  where
    nothing : (b : Bool) → own_entry (b && false) (target_of_relocation l s r) (addend_of l s r) ≡ None
    nothing true = refl
    nothing false = refl

    entry : (w k : ℕ) (o : Option Target) → (k ≡ ARM64_RELOC_SUBTRACTOR) ⊎ (k ≡ ARM64_RELOC_ADDEND)
        → own_entry
        (is_pointer
        (record {
          relocation = r;
          offset = (relocation_in l s r).r_address;
          width = w;
          type = k;
          target = target_of_relocation l s r;
          subtrahend = o;
          addend = addend_of l s r;
        }))
        (target_of_relocation l s r) (addend_of l s r) ≡ None
    entry w k o (inl e) = rw e (nothing (w == 8))
    entry w k o (inr e) = rw e (nothing (w == 8))

    by : (b : Bool) → ((relocation_in l s r).r_type == ARM64_RELOC_SUBTRACTOR) ≡ b → own_of_use l (ByRelocation s r) ≡ None
    by true e =
        entry (width_of l s r) (relocation_in l s r).r_type (subtrahend_of l s r)
        (inl (eqb-true (relocation_in l s r).r_type ARM64_RELOC_SUBTRACTOR e))
    by false e =
        let addend : ((relocation_in l s r).r_type == ARM64_RELOC_ADDEND) ≡ true =
        sym (ap (λ b. b || ((relocation_in l s r).r_type == ARM64_RELOC_ADDEND)) e) ∙ prefix in
        entry (width_of l s r) (relocation_in l s r).r_type (subtrahend_of l s r)
        (inr (eqb-true (relocation_in l s r).r_type ARM64_RELOC_ADDEND addend))

-- the entries of a section
section_entries : (l : Link) (s : SectionId)
    → filter_map (own_of_use l) (carried_uses l s) ≡ filter_map (λ f. own_entry (is_pointer f) f.target f.addend) (fields_of l s)
unfolding fields_of
section_entries l s =
    asked_map (own_of_use l) (ByRelocation s) (relocations_of l s)
    ∙ sym (asked_map (λ (f : Field). own_entry (is_pointer f) f.target f.addend) (field_of l s)
    (filter (λ r. not (is_prefix_type (relocation_in l s r).r_type)) (relocations_of l s))
    ∙ asked_kept (λ r. own_of_use l (ByRelocation s r)) (λ r. not (is_prefix_type (relocation_in l s r).r_type)) (relocations_of l s)
    (λ r e. prefix_none l s r (true_from (is_prefix_type (relocation_in l s r).r_type) e)))
  where
    true_from : (b : Bool) → not b ≡ false → b ≡ true
    true_from true e = refl
    true_from false e = cc

-- the entries of all uses
all_entries : (l : Link) → own_in l (uses_of l) ≡ own_entries l
unfolding own_in own_entries uses_of
all_entries l =
    let first = flat_map (carried_uses l) (carried_of l) in
    let second = flat_map (initializer_uses l) (initializer_sections l) in
    let third = flat_map (personality_uses l) (unwind_sections l) in
    let last = map ByName (filter (is_imported l) (plain_entries l.export_lists)) in
    let none_second : filter_map (own_of_use l) second ≡ []
    = nested_none (own_of_use l) ByInitializer (λ s. range_with_len 0 ((header_at l s).size / POINTER_SIZE))
    (λ s slot. relocations_at l s (POINTER_SIZE * slot)) (initializer_sections l) (λ s r. refl) in
    let none_third : filter_map (own_of_use l) third ≡ []
    = nested_none (own_of_use l) ByPersonality (λ s. range_with_len 0 ((header_at l s).size / UNWIND_ENTRY_SIZE))
    (λ s entry. relocations_at l s (UNWIND_ENTRY_SIZE * entry + PERSONALITY_PLACE))
    (unwind_sections l) (λ s r. refl) in
    let none_last : filter_map (own_of_use l) last ≡ [] =
    named_none (own_of_use l) (filter (is_imported l) (plain_entries l.export_lists)) (λ name. refl) in
    let split : filter_map (own_of_use l) (((first ++ second) ++ third) ++ last) ≡ filter_map (own_of_use l) first
    = filter_map-append (own_of_use l) ((first ++ second) ++ third) last
    ∙ ap (λ zs. filter_map (own_of_use l) ((first ++ second) ++ third) ++ zs) none_last ∙ append-nil _
    ∙ filter_map-append (own_of_use l) (first ++ second) third ∙ ap (λ zs. filter_map (own_of_use l) (first ++ second) ++ zs) none_third
    ∙ append-nil _
    ∙ filter_map-append (own_of_use l) first second ∙ ap (λ zs. filter_map (own_of_use l) first ++ zs) none_second ∙ append-nil _ in
    ap (distinct same_entry)
    (split ∙ asked_flat (own_of_use l) (carried_uses l) (carried_of l) ∙ flat_alike _ _ (carried_of l) (section_entries l))

pub needs_are : NeedsAreWhole
unfolding imports_in slots_in stubs_in
needs_are l n is = record {
  imports = is.imports.notes ∙ sym (imports_are l);
  slots = is.slots ∙ sym (slots_are l);
  stubs = is.stubs ∙ sym (stubs_are l);
  own = is.own ∙ all_entries l;
}

pub names_are_found : NamesAreFoundThen
names_are_found l n is = record {
  none = λ name file without.
      let undefined = undefined_has_use l name file without in
      let u = undefined.0 in
      let s = undefined.1 in
      let found = subst (IsFound l) undefined.2.2 (is.found undefined.2.0 u undefined.2.1) s undefined.4 undefined.5 in
      neither (definition_of l (name_at l s)) found (ap (λ m. is_some (definition_of l m)) undefined.6 ∙ undefined.8);
}
  where
    neither : {X : Type 0} (o : Option X) → is_none o ≡ false → is_some o ≡ false → ⊥
    neither None e f = cc
    neither (Some x) e f = cc

-- names of lists
names_noted : (l : Link) (us : List Use) (names : List (List ℕ)) (old new : Needs) → IsNoted l us old → new.tables ≡ old.tables
    → IsResolved l (imports_in l (us ++ map ByName names)) new.resolved → IsNoted l (us ++ map ByName names) new
unfolding slots_in stubs_in own_in
names_noted l us names old new is tables resolved = record {
  imports = resolved;
  slots = ap (λ (t : Numbered). t.slots) tables ∙ is.slots
      ∙ ap (distinct same_target) (sym (named_same (slot_of_use l) us names (λ name. refl)));
  stubs = ap (λ (t : Numbered). t.stubs) tables ∙ is.stubs
      ∙ ap (distinct same_target) (sym (named_same (stub_of_use l) us names (λ name. refl)));
  own = ap (λ (t : Numbered). t.own) tables ∙ is.own ∙ ap (distinct same_entry) (sym (named_same (own_of_use l) us names (λ name. refl)));
  found = all_found us is.found names;
}
  where
    all_found : (vs : List Use) → All (IsFound l) vs → (ns : List (List ℕ)) → All (IsFound l) (vs ++ map ByName ns)
    all_found vs all [] = subst (All (IsFound l)) (sym (append-nil vs)) all
    all_found vs all (name ∷ ns) =
        subst (All (IsFound l)) (append_assoc vs (ByName name ∷ []) (map ByName ns))
        (all_found (vs ++ ByName name ∷ []) (All-push (IsFound l) vs (ByName name) all (λ s used. cc)) ns)

pub names_are_noted : NamesAreNoted
names_are_noted = names_noted

pub name_is_noted : NameIsNoted
unfolding with_name
name_is_noted l us name = imports_more l us (ByName name) ∙ by (is_imported l name) (list_any (bytes_eq name) (imports_in l us))
  where
    by : (i b : Bool)
        → (if i then cond b (imports_in l us) (imports_in l us ++ name ∷ []) else imports_in l us)
        ≡ (if i && not b then imports_in l us ++ name ∷ [] else imports_in l us)
    by true true = refl
    by true false = refl
    by false b = refl
