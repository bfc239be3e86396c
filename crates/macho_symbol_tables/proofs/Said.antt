-- What each exported name says is what it is exported as.
--
-- A name that an object defines leads to a carried section, a chosen common or an absolute value, and to nothing else. What moves has its
-- address, which the look-ups tell; whether its section describes thread-local variables is told by the view of its object. A name that is
-- exported on has the number of its library.
use Rattle.std.proofs.Common.{◌≡◌, ℕ, ◌≤◌, inl, inr, Bool, true, false, List, map, get_or, refl, sym, ap, subst, ◌∙◌, Contains}
use Rattle.std.specs.Prelude.{max, Option, Some, None, if◌then◌else◌, nat_lt}
use Rattle.std.proofs.lemmas.Bool.{lt-ltb, true≢false}
use Rattle.std.proofs.lemmas.List.{get_or-map}
use Rattle.std.specs.FinMap.{empty}
use Rattle.macho_records.specs.Symbols.{is_weak_of}
use Rattle.macho_model.specs.declared.placed.Counts.{Counts}
use Rattle.macho_model.specs.declared.targets.Target.{Target}
use Rattle.macho_model.specs.declared.targets.Target.TheVariants as target
use Rattle.macho_model.specs.Objects.{num_sections, section_at}
use Rattle.macho_model.specs.Links.{Object, Link, header_at, carried_of, sections_of, is_carried, section_id}
use Rattle.macho_model.specs.Needs.{imports_of, import_library}
use Rattle.macho_model.specs.Resolution.{SymbolId, entry_at}
use Rattle.macho_model.specs.Rows.{is_none}
use Rattle.macho_model.specs.Targets.{own_target, definition_target, target_of_name, is_defined}
use Rattle.macho_model.specs.Values.{is_absolute_target}
use Rattle.macho_model.specs.Exports.{IsExported, library_number}
use Rattle.macho_model.specs.Placement.{Placed}
use Rattle.macho_model.specs.Addresses.{address_of}
use Rattle.macho_model.specs.Stands.{IsAt}
use Rattle.macho_bytes.proofs.Members.{filter_contains, all_contains, contains_all, map_contains, contains_map}
use Rattle.macho_promise.specs.Views.{object_view, views_of}
use Rattle.macho_object.specs.Views.{FileBytes}
use Rattle.macho_promise.specs.TrieSays.{ExportedAs}
use Rattle.macho_symbols.specs.declared.exports.ExportName.{ExportName}
use Rattle.macho_symbols.specs.declared.solved.Import.{Import}
use Rattle.macho_placed_laws.specs.Targets.{IsOfLink}
use Rattle.macho_placed_laws.proofs.Named.{name_of_link}
use Rattle.macho_placed_laws.proofs.OfLink.{section_of}
use Rattle.macho_fields.specs.Looks.{Look, wrapped_in}
use Rattle.macho_linkedit.specs.declared.exports.ExportSays.{ExportSays}
use Rattle.macho_linkedit.specs.declared.exports.ExportSays.TheVariants.{Reexport}
use Rattle.macho_linkedit.specs.declared.exports.NamedExport.{NamedExport}
use Rattle.macho_linkedit.specs.Tries.{said_of, kept_of, value_said, is_thread_local, AreSaid}
use Rattle.macho_linkedit.proofs.Exporting.{values_are_found, reexports_are_found}
use Rattle.macho_linkedit.proofs.Numbering.{not_own}
use Rattle.macho_symbol_tables.specs.Placed.{IsToTable}
use Rattle.macho_symbol_tables.specs.Exports.{exports_told, AreExportsOf}
use Rattle.macho_symbol_tables.specs.steps.Says.{number_in, library_at, says_kept, is_local_header, header_in, is_local_in, value_in, says_said, seen, all_said}
use Rattle.macho_symbol_tables.proofs.Exported.{IsExportedName, names_are, exports_are_told, export_imported}
use Rattle.macho_symbol_tables.proofs.Kept.{names_seen}
use Rattle.macho_symbol_tables.proofs.Defined.{defined_leads, own_is_some}
use Rattle.macho_symbol_tables.proofs.Addressed.{lists_all, stands_at, base_below}

-- the view of an object shows its sections
header_seen : (l : Link) (file section : ℕ) → Contains (carried_of l) (section_id file section)
    → header_in (get_or (views_of l) file None) section ≡ Some (header_at l (section_id file section))
unfolding carried_of
header_seen l file section carried =
    let s = section_of l (section_id file section)
    (filter_contains (λ t. is_carried (header_at l t)) (sections_of l) (section_id file section) carried).0 in
    let view : get_or (views_of l) file None ≡ Some (record { bytes = s.bytes; is_dynamic = false }) =
    get_or-map object_view l.inputs file (Object s.bytes) None s.input.0 ∙ ap object_view s.input.1 in
    let there : header_in (Some (record { bytes = s.bytes; is_dynamic = false })) section ≡ Some (section_at s.bytes section) =
    by (nat_lt section (num_sections s.bytes)) (lt-ltb section (num_sections s.bytes) s.section) in
    ap (λ (f : Option FileBytes). header_in f section) view ∙ there
    ∙ ap (λ (b : List ℕ). Some (section_at b section)) (sym s.object)
  where
    by : {X : Type 0} {x : X} (t : Bool) → t ≡ true → (if t then Some x else None) ≡ Some x
    by t e = rw e refl

local_is : (l : Link) (t : Target) → IsOfLink l t → is_local_in (views_of l) t ≡ is_thread_local l t
local_is l (target.Section file section offset) of = ap is_local_header (header_seen l file section of)
local_is l (target.Common id) of = refl
local_is l (target.Import id) of = refl
local_is l target.Base of = refl
local_is l (target.Absolute value) of = refl
local_is l target.None of = refl

-- What is said of a name that an object defines.
value_found : (l : Link) (counts : Counts) (p : Placed) (look : Look) (name : List ℕ) (s : SymbolId) (t : Target)
    → IsToTable l counts p look → IsExported l name s → t ≡ target_of_name l name → is_defined t ≡ true
    → ExportedAs l p name (said_of (value_in look (views_of l) (is_weak_of (entry_at l s)) t))
value_found l counts p look name s t to exported is moves =
    subst (λ (u : Target). ExportedAs l p name (said_of (value_in look (views_of l) (is_weak_of (entry_at l s)) u))) (sym is)
    (subst (λ (x : ExportSays). ExportedAs l p name (said_of x)) (sym same)
    (values_are_found l p name s (address_of p named) exported (stands_at l p named (lists_all l counts p to.placed) of) (λ moving. far.1)))
  where
    named : Target
    named = target_of_name l name

    defined : is_defined named ≡ true
    defined = ap is_defined (sym is) ∙ moves

    of : IsOfLink l named
    of = name_of_link l (imports_of l) name to.objects defined

    far : (max look.base (wrapped_in look named) ≡ address_of p named) × (p.base ≤ address_of p named)
    far = base_below l counts p look named to.placed to.tells.addresses of (to.fit.names name defined)

    weak : Bool
    weak = is_weak_of (entry_at l s)

    same : value_in look (views_of l) weak named ≡ value_said named weak (is_thread_local l named) (address_of p named) p.base
    same =
        ap (λ (b : Bool). value_said named weak b (max look.base (wrapped_in look named)) look.base) (local_is l named of)
        ∙ ap (λ (n : ℕ). value_said named weak (is_thread_local l named) n look.base) far.0
        ∙ ap (λ (n : ℕ). value_said named weak (is_thread_local l named) (address_of p named) n) to.tells.addresses.base

-- an absolute value is what it is
absolute_found : (l : Link) (p : Placed) (look : Look) (name : List ℕ) (s : SymbolId) (value : ℕ) → IsExported l name s
    → target.Absolute value ≡ target_of_name l name
    → ExportedAs l p name (said_of (value_in look (views_of l) (is_weak_of (entry_at l s)) (target.Absolute value)))
absolute_found l p look name s value exported is =
    subst
    (λ (u : Target). ExportedAs l p name (said_of (value_said u (is_weak_of (entry_at l s)) (is_thread_local l u) value p.base)))
    (sym is)
    (values_are_found l p name s value exported (subst (λ (u : Target). IsAt l p 0 empty u value) is refl)
    (λ moving. absurd (true≢false (subst (λ (u : Target). is_absolute_target u ≡ false) (sym is) moving))))

-- THE exported name.
pub export_found : (l : Link) (counts : Counts) (p : Placed) (look : Look) (exports : List ExportName) (imports : List Import)
    (libraries : List (List ℕ)) (e : ExportName)
    → AreExportsOf l exports imports libraries → IsToTable l counts p look → Contains exports e
    → ExportedAs l p e.name.items (said_of (says_said look (views_of l) imports libraries e.weak e.target))
export_found l counts p look exports imports libraries e of to there =
    by (all_contains (IsExportedName l) exports e of.exports_are.each there)
  where
    object : (t : Target) (s : SymbolId) → IsExported l e.name.items s → t ≡ target_of_name l e.name.items
        → ExportedAs l p e.name.items (said_of (says_said look (views_of l) imports libraries (is_weak_of (entry_at l s)) t))
    object (target.Section file section offset) s exported is = value_found l counts p look e.name.items s
        (target.Section file section offset) to exported is refl
    object (target.Common id) s exported is = value_found l counts p look e.name.items s (target.Common id) to exported is refl
    object target.Base s exported is = value_found l counts p look e.name.items s target.Base to exported is refl
    object (target.Absolute value) s exported is = absolute_found l p look e.name.items s value exported is
    object (target.Import id) s exported is =
        absurd (not_own l s id (sym (ap (definition_target l (imports_of l) e.name.items) exported.0) ∙ sym is))
    object target.None s exported is =
        let none : is_none (own_target l s) ≡ true =
        ap is_none (sym (ap (definition_target l (imports_of l) e.name.items) exported.0) ∙ sym is) in
        absurd (true≢false (sym none ∙ own_is_some l s (defined_leads l e.name.items s exported.0)))

    import_said : (id : ℕ) → e.target ≡ target.Import id
        → ExportedAs l p e.name.items (said_of (Reexport (library_number l (import_library l e.name.items))))
        → ExportedAs l p e.name.items (said_of (says_said look (views_of l) imports libraries e.weak e.target))
    import_said id leads found =
        let one = export_imported l imports e id of.imports_are (all_contains (IsExportedName l) exports e of.exports_are.each there)
        leads in
        let number : number_in libraries (library_at imports id) ≡ library_number l (import_library l e.name.items) =
        ap (number_in libraries) one.library
        ∙ ap (λ (names : List (List ℕ)). number_in names (import_library l e.name.items)) of.libraries_are in
        subst (λ (t : Target). ExportedAs l p e.name.items (said_of (says_said look (views_of l) imports libraries e.weak t)))
        (sym leads)
        (subst (λ (n : ℕ). ExportedAs l p e.name.items (said_of (Reexport n))) (sym number) found)

    by : IsExportedName l e
        → ExportedAs l p e.name.items (said_of (says_said look (views_of l) imports libraries e.weak e.target))
    by (inl (s, exported, weak, leads)) =
        subst (λ (w : Bool). ExportedAs l p e.name.items (said_of (says_said look (views_of l) imports libraries w e.target))) (sym weak)
        (object e.target s exported leads)
    by (inr (among, lists, listed, weak, leads)) = import_said _ leads (reexports_are_found l p e.name.items (among, lists, listed))

-- THE exports, each with what it is exported as.
pub are_said : (l : Link) (counts : Counts) (p : Placed) (look : Look) (exports : List ExportName) (imports : List Import)
    (libraries : List (List ℕ)) (v : List NamedExport)
    → AreExportsOf l exports imports libraries → IsToTable l counts p look
    → map seen v ≡ all_said look (views_of l) imports libraries exports → AreSaid l p (exports_told exports) v
are_said l counts p look exports imports libraries v of to is = record {
  told_are = exports_are_told l exports of.exports_are;
  names = names_seen exports says v is ∙ names_are exports;
  each =
      contains_all (λ (x : NamedExport). ExportedAs l p x.name.now (said_of x.says)) v
      (λ x one. by x (map_contains (λ (e : ExportName). (e.name.items, says e)) exports (seen x)
      (subst (λ (xs : List (List ℕ × ExportSays)). Contains xs (seen x)) is (contains_map seen v x one))));
}
  where
    says : ExportName → ExportSays
    says e = says_said look (views_of l) imports libraries e.weak e.target

    by : (x : NamedExport) → (e : ExportName) × Contains exports e × ((let q : List ℕ × ExportSays = (e.name.items, says e) in q) ≡ seen x)
        → ExportedAs l p x.name.now (said_of x.says)
    by x (e, there, same) =
        subst (λ (q : List ℕ × ExportSays). ExportedAs l p q.0 (said_of q.1)) same
        (export_found l counts p look exports imports libraries e of to there)

-- each keeps the place of what it is exported as
pub said_keeps : (look : Look) (views : List (Option FileBytes)) (imports : List Import) (libraries : List (List ℕ)) (weak : Bool)
    (t : Target)
    → kept_of (says_said look views imports libraries weak t) ≡ kept_of (says_kept imports libraries t)
said_keeps look views imports libraries weak (target.Section file section offset) = refl
said_keeps look views imports libraries weak (target.Common id) = refl
said_keeps look views imports libraries weak target.Base = refl
said_keeps look views imports libraries weak (target.Absolute value) = refl
said_keeps look views imports libraries weak (target.Import id) = refl
said_keeps look views imports libraries weak target.None = refl
