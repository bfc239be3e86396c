-- The numbers of imports are numbers of entries of the import table.
--
-- A target that is an import is that of a global name which a library defines, and so is the name of a use. The name is
-- among the imports, so its number is below theirs. A pointer whose addend has no room has an entry of its own, so the number
-- of that entry is below that of all.
use Rattle.std.proofs.Common.{◌≡◌, ℕ, ◌==◌, ◌<◌, ◌≤◌, Bool, true, false, not, ◌&&◌, ◌||◌, if◌then◌else◌, List, map, length, refl, sym, ap, ◌∙◌, arith, Option, Some, None, Decides, subst}
use Rattle.std.specs.Prelude.{Contains, filter}
use Rattle.std.specs.List.{flat_map, filter_map, position_or_len, range_with_len}
use Rattle.std.specs.Str.{bytes_eq}
use Rattle.std.proofs.lemmas.List.{length-append, length-map}
use Rattle.std.proofs.lemmas.List.Elements.{Contains-append_left, Contains-append_right}
use Rattle.std.proofs.lemmas.List.FromFn.{length-range_with_len}
use Rattle.std.proofs.lemmas.Slice.Eq.{bytes_eq-Decides}
use Rattle.macho_records.specs.Symbols.{is_common_of, has_type, is_global}
use Rattle.macho_records.specs.declared.constants.TheConstants.{N_ABS}
use Rattle.macho_model.specs.declared.targets.Target.{Target}
use Rattle.macho_model.specs.declared.targets.Target.TheVariants as target
use Rattle.macho_model.specs.Links.{Link, SectionId, header_at, is_carried, carried_of}
use Rattle.macho_model.specs.Resolution.{SymbolId, Definition, Symbol, Library, ImageBase, entry_at, name_at, same_symbol, chosen_commons, stands_in_carried, definition_of}
use Rattle.macho_model.specs.Needs.{relocation_in, section_named, relocations_of, is_imported, symbol_of_relocation, imports_of}
use Rattle.macho_model.specs.steps.Resolved.{is_library}
use Rattle.macho_model.specs.Uses.{Use, ByRelocation, ByInitializer, ByPersonality, ByName, carried_uses, uses_of, global_name, name_used, slot_of_use, goes_by_slot}
use Rattle.macho_model.specs.Targets.{own_target, definition_target, target_of, target_of_relocation, slots_of, is_import, same_target}
use Rattle.macho_model.specs.Fixups.{EntryOfImport, same_entry, has_room, own_entry, own_entries, import_entries_of}
use Rattle.macho_model.specs.Fields.{Field, field_of, is_prefix_type, fields_of}
use Rattle.macho_model.specs.Values.{is_pointer}
use Rattle.macho_model.proofs.Words.{place_of_symbol, target_of_symbol, target_of_section}
use Rattle.macho_linkedit.proofs.Members.{in_distinct}
use Rattle.macho_model.proofs.Uses.{imports_are, slots_are}
use Rattle.macho_bytes.proofs.Members.{position_below, contains_map, map_contains, contains_filter, filter_contains, contains_flat_map, contains_filter_map, filter_map_contains}
use Rattle.macho_model.proofs.Sections.{entry-Decides}
use Rattle.macho_model.proofs.Distinct.{distinct_contains}

-- A name that a library defines, and its number.
pub record IsNamed (l : Link) (used : Option (List ℕ)) (id : ℕ) : Type 0 where
  pub name : List ℕ
  pub is : used ≡ Some name
  pub imported : is_imported l name ≡ true
  pub number : id ≡ position_or_len (bytes_eq name) (imports_of l)

-- a symbol that defines itself is no import
pub not_own : (l : Link) (s : SymbolId) (id : ℕ) → own_target l s ≡ target.Import id → ⊥
not_own l s id is = by (stands_in_carried l s) (has_type N_ABS (entry_at l s)) (is_common_of (entry_at l s)) is
  where
    by : (a b c : Bool)
        → (if a then place_of_symbol l s
        else if b then target.Absolute (entry_at l s).n_value
        else if c then target.Common (position_or_len (same_symbol s) (chosen_commons l)) else target.None)
        ≡ target.Import id → ⊥
    by true b c is = cc
    by false true c is = cc
    by false false true is = cc
    by false false false is = cc

symbol_named : (l : Link) (s : SymbolId) (id : ℕ) → target_of l s ≡ target.Import id → IsNamed l (global_name l (Some s)) id
unfolding target_of
symbol_named l s id is = by (is_global (entry_at l s)) is
  where
    defined : (d : Option Definition) → definition_of l (name_at l s) ≡ d → definition_target l (imports_of l)
        (name_at l s) d ≡ target.Import id
        → IsNamed l (Some (name_at l s)) id
    defined None known is = cc
    defined (Some (Symbol t)) known is = absurd (not_own l t id is)
    defined (Some (Library file)) known is =
        let same : position_or_len (bytes_eq (name_at l s)) (imports_of l) ≡ id = cc in
        record { name = name_at l s; is = refl; imported = ap is_library known; number = sym same }
    defined (Some ImageBase) known is = cc

    by : (b : Bool)
        → (if b then definition_target l (imports_of l) (name_at l s) (definition_of l (name_at l s))
        else own_target l s)
        ≡ target.Import id
        → IsNamed l (if b then Some (name_at l s) else None) id
    by true is = defined (definition_of l (name_at l s)) refl is
    by false is = absurd (not_own l s id is)

-- what a relocation names where it leads to an import
pub relocation_named : (l : Link) (s : SectionId) (r id : ℕ) → target_of_relocation l s r ≡ target.Import id
    → IsNamed l (global_name l (symbol_of_relocation l s r)) id
unfolding target_of_relocation
relocation_named l s r id is = outside (relocation_in l s r).r_extern is
  where
    inside : (o : Option SymbolId) → target_of_symbol l o ≡ target.Import id → IsNamed l (global_name l o) id
    inside None is = cc
    inside (Some x) is = symbol_named l x id is

    sections : (b : Bool) → (if b then target.Section (section_named l s r).file (section_named l s r).section 0 else target.None)
        ≡ target.Import id → ⊥
    sections true is = cc
    sections false is = cc

    outside : (b : Bool)
        → (if b then target_of_symbol l (symbol_of_relocation l s r) else target_of_section l (section_named l s r)) ≡ target.Import id
        → IsNamed l (global_name l (symbol_of_relocation l s r)) id
    outside true is = inside (symbol_of_relocation l s r) is
    outside false is = absurd (sections (is_carried (header_at l (section_named l s r))) is)

-- the number of a name that a use names is below the number of imports
named_below : (l : Link) (u : Use) (id : ℕ) → Contains (uses_of l) u → IsNamed l (name_used l u) id → id < length (imports_of l)
named_below l u id there named =
    let among : Contains (filter_map (name_used l) (uses_of l)) named.name = contains_filter_map (name_used l)
    (uses_of l) u named.name there named.is in
    let imported : Contains (filter (is_imported l) (filter_map (name_used l) (uses_of l))) named.name
    = contains_filter (is_imported l) (filter_map (name_used l) (uses_of l)) named.name among named.imported in
    let once : Contains (imports_of l) named.name
    = subst (λ (ns : List (List ℕ)). Contains ns named.name) (sym (imports_are l))
    (in_distinct bytes_eq bytes_eq-Decides (filter (is_imported l) (filter_map (name_used l) (uses_of l))) named.name imported) in
    let below : position_or_len (bytes_eq named.name) (imports_of l) < length (imports_of l)
    = position_below (bytes_eq named.name) (imports_of l) named.name once ((bytes_eq-Decides named.name named.name).1 refl) in
    let number : id ≡ position_or_len (bytes_eq named.name) (imports_of l) = named.number in
    omega arith

-- a relocation of a carried section is a use
carried_use : (l : Link) (s : SectionId) (r : ℕ) → Contains (carried_of l) s → Contains (relocations_of l s) r → Contains (uses_of l)
    (ByRelocation s r)
unfolding uses_of
carried_use l s r in_l in_s =
    Contains-append_left _ _ (ByRelocation s r) (Contains-append_left _ _ (ByRelocation s r) (Contains-append_left _ _ (ByRelocation s r)
    (contains_flat_map (carried_uses l) (carried_of l) s (ByRelocation s r) in_l
    (contains_map (ByRelocation s) (relocations_of l s) r in_s))))

-- THE number of an import that a field leads to
pub field_below : (l : Link) (s : SectionId) (f : Field) (id : ℕ) → Contains (carried_of l) s → Contains (fields_of l s) f
    → f.target ≡ target.Import id
    → id < length (imports_of l)
unfolding fields_of
field_below l s f id in_l in_s is =
    let z = map_contains (field_of l s) (filter (λ r. not (is_prefix_type (relocation_in l s r).r_type)) (relocations_of l s)) f in_s in
    let r = filter_contains (λ r. not (is_prefix_type (relocation_in l s r).r_type)) (relocations_of l s) z.0 z.1 in
    let leads : target_of_relocation l s z.0 ≡ target.Import id = ap (λ (g : Field). g.target) z.2 ∙ is in
    named_below l (ByRelocation s z.0) id (carried_use l s z.0 in_l r.0) (relocation_named l s z.0 id leads)

-- and that a slot leads to
pub slot_below : (l : Link) (id : ℕ) → Contains (slots_of l) (target.Import id) → id < length (imports_of l)
slot_below l id c =
    let z = filter_map_contains (slot_of_use l) (uses_of l) (target.Import id)
    (distinct_contains same_target (filter_map (slot_of_use l) (uses_of l)) (target.Import id)
    (subst (λ (ts : List Target). Contains ts (target.Import id)) (slots_are l) c)) in
    named_below l z.0 id z.1 (by z.0 z.2)
  where
    some : (b : Bool) (t : Target) → (if b then Some t else None) ≡ Some (target.Import id) → t ≡ target.Import id
    some true t is = cc
    some false t is = cc

    by : (u : Use) → slot_of_use l u ≡ Some (target.Import id) → IsNamed l (name_used l u) id
    by (ByRelocation s r) is =
        relocation_named l s r id
        (some (((relocation_in l s r).r_type == 7) || (goes_by_slot (relocation_in l s r).r_type && is_import (target_of_relocation l s r)))
        (target_of_relocation l s r) is)
    by (ByInitializer s r) is = cc
    by (ByPersonality s r) is = relocation_named l s r id (let same : target_of_relocation l s r ≡ target.Import id = cc in same)
    by (ByName name) is = cc

-- an entry of a pointer's own is among them
pub own_below : (l : Link) (s : SectionId) (f : Field) (id : ℕ) → Contains (carried_of l) s → Contains (fields_of l s) f
    → is_pointer f ≡ true
    → f.target ≡ target.Import id → has_room f.addend ≡ false
    → position_or_len (same_entry (record { import = id; addend = f.addend })) (import_entries_of l) < length (import_entries_of l)
unfolding own_entries import_entries_of
own_below l s f id in_l in_s points leads room =
    position_below (same_entry e) (import_entries_of l) e
    (Contains-append_right (map (λ id. record { import = id; addend = 0 }) (range_with_len 0 (length (imports_of l)))) (own_entries l) e
    (in_distinct same_entry entry-Decides
    (flat_map (λ s. filter_map (λ f. own_entry (is_pointer f) f.target f.addend) (fields_of l s)) (carried_of l)) e
    (contains_flat_map (λ s. filter_map (λ f. own_entry (is_pointer f) f.target f.addend) (fields_of l s)) (carried_of l) s e in_l
    (contains_filter_map (λ f. own_entry (is_pointer f) f.target f.addend) (fields_of l s) f e in_s own))))
    ((entry-Decides e e).1 refl)
  where
    e : EntryOfImport
    e = record { import = id; addend = f.addend }

    own : own_entry (is_pointer f) f.target f.addend ≡ Some e
    own = rw (points, leads, room) refl

-- there are as many entries as imports at least
pub imports_first : (l : Link) → length (imports_of l) ≤ length (import_entries_of l)
unfolding import_entries_of
imports_first l =
    omega (
      arith,
      length-append (map (λ id. let e : EntryOfImport = record { import = id; addend = 0 } in e)
          (range_with_len 0 (length (imports_of l)))) (own_entries l),
      length-map (range_with_len 0 (length (imports_of l))) (λ id. let e : EntryOfImport = record { import = id; addend = 0 } in e),
      length-range_with_len 0 (length (imports_of l)),
    )
