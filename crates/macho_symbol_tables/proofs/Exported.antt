-- What is exported is told: by names, targets and weakness.
--
-- A name that an object defines leads to what its definition does, and one that is exported on to its import. The names rise, so they are
-- distinct. None of them holds a NUL: a symbol's name ends at the first one, and an import's name is plain.
use Rattle.std.proofs.Common.{◌≡◌, ℕ, ◌⊎◌, inl, inr, Bool, true, List, map, refl, sym, ap, subst, ◌∙◌, Contains}
use Rattle.std.specs.Prelude.{Option, Some, None, filter}
use Rattle.std.specs.List.{filter_map, position_or_len}
use Rattle.std.specs.Str.{bytes_eq}
use Rattle.std.proofs.lemmas.Bool.{true≢false}
use Rattle.macho_model.specs.declared.targets.Target.TheVariants as target
use Rattle.macho_model.specs.Links.{Link, object_of}
use Rattle.macho_model.specs.Needs.{is_imported, imports_of}
use Rattle.macho_model.specs.steps.Resolved.{is_library}
use Rattle.macho_model.specs.Uses.{uses_of, name_used}
use Rattle.macho_model.specs.Resolution.{Definition, Symbol, Library, ImageBase, definition_of}
use Rattle.macho_model.specs.Targets.{own_target, target_of_name, definition_target}
use Rattle.macho_model.specs.Told.{ToldExport, IsToldExport, from_object, from_library}
use Rattle.macho_bytes.proofs.Members.{map_contains, filter_contains, all_contains, contains_all}
use Rattle.macho_bytes.proofs.Orders.{EachLater}
use Rattle.macho_symbols.specs.declared.exports.ExportName.{ExportName}
use Rattle.macho_symbols.specs.declared.solved.Import.{Import}
use Rattle.macho_symbols.specs.Told.{ImportsAre}
use Rattle.macho_symbols.specs.Exported.{IsFromObject, IsReexport, export_names}
use Rattle.macho_linkedit.proofs.Numbering.{not_own}
use Rattle.macho_answer.specs.Linked.{export_of}
use Rattle.macho_promise.specs.Views.{IsPlain}
use Rattle.macho_symbol_tables.specs.Exports.{exports_told, ImportsArePlain}
use Rattle.macho_symbol_tables.specs.Laws.{ExportsAreAllTold}
use Rattle.macho_symbol_tables.proofs.Rising.{Rises, names_rise, told_rise}
use Rattle.macho_symbol_tables.proofs.Imported.{IsImported, imported}
use Rattle.macho_model.proofs.Uses.{imports_are}
use Rattle.macho_model.proofs.Definitions.{defined_by}
use Rattle.macho_model.proofs.Distinct.{distinct_contains}
use Rattle.macho_promise.proofs.Plain.{symbol_plain}
use Rattle.macho_bytes.proofs.Maps.{map_map}

-- an exported name of a link, in one of two ways
abbrev pub IsExportedName : Link → ExportName → Type 0
IsExportedName l e = IsFromObject l (imports_of l) e ⊎ IsReexport l (imports_of l) e

-- What is told of it.
pub record IsToldName (l : Link) (e : ExportName) : Type 0 where
  pub told : IsToldExport l e.name.items e.weak
  pub target_is : e.target ≡ target_of_name l e.name.items

-- a name of an import leads to its number: a library defines it
leads_on : (l : Link) (name : List ℕ) → Contains (imports_of l) name
    → target_of_name l name ≡ target.Import (position_or_len (bytes_eq name) (imports_of l))
leads_on l name among =
    let used = distinct_contains bytes_eq (filter (is_imported l) (filter_map (name_used l) (uses_of l))) name
    (subst (λ (ns : List (List ℕ)). Contains ns name) (imports_are l) among) in
    by (definition_of l name) (filter_contains (is_imported l) (filter_map (name_used l) (uses_of l)) name used).1
  where
    by : (d : Option Definition) → is_library d ≡ true
        → definition_target l (imports_of l) name d ≡ target.Import (position_or_len (bytes_eq name) (imports_of l))
    by None is = absurd (true≢false (sym is))
    by (Some (Symbol s)) is = absurd (true≢false (sym is))
    by (Some (Library file)) is = refl
    by (Some ImageBase) is = absurd (true≢false (sym is))

told_name : (l : Link) (e : ExportName) → IsExportedName l e → IsToldName l e
told_name l e (inl (s, exported, weak, leads)) = record {
  told = subst (λ (w : Bool). IsToldExport l e.name.items w) (sym weak) (from_object s exported);
  target_is = leads;
}
told_name l e (inr (among, lists, listed, weak, leads)) = record {
  told = subst (λ (w : Bool). IsToldExport l e.name.items w) (sym weak) (from_library (among, lists, listed));
  target_is = leads ∙ sym (leads_on l e.name.items among);
}

pub names_are : (exports : List ExportName) → export_names exports ≡ map (λ (t : ToldExport). t.name) (exports_told exports)
names_are exports = sym (map_map (λ (t : ToldExport). t.name) export_of exports)

-- THE law.
pub exports_are_told : ExportsAreAllTold
exports_are_told l exports are = record {
  rising =
      told_rise (exports_told exports)
      (subst (λ (names : List (List ℕ)). EachLater Rises names) (names_are exports) (names_rise (export_names exports) are.rising));
  each =
      contains_all (λ (t : ToldExport). IsToldExport l t.name t.weak × (t.target ≡ target_of_name l t.name)) (exports_told exports)
      (λ t there. by t (map_contains export_of exports t there));
  all = λ name weak is. subst (λ (names : List (List ℕ)). Contains names name) (names_are exports) (found name weak is);
}
  where
    by : (t : ToldExport) → (e : ExportName) × Contains exports e × (export_of e ≡ t)
        → IsToldExport l t.name t.weak × (t.target ≡ target_of_name l t.name)
    by t (e, there, is) =
        let one = told_name l e (all_contains (IsExportedName l) exports e are.each there) in
        subst (λ (u : ToldExport). IsToldExport l u.name u.weak × (u.target ≡ target_of_name l u.name)) is (one.told, one.target_is)

    found : (name : List ℕ) (weak : Bool) → IsToldExport l name weak → Contains (export_names exports) name
    found name _ (from_object s exported) = are.objects name s exported
    found name _ (from_library (among, lists, listed)) = are.libraries name among lists listed

-- a name that is exported holds no NUL
pub export_plain : (l : Link) (e : ExportName) → ImportsArePlain l → IsExportedName l e → IsPlain e.name.items
export_plain l e plain (inl (s, exported, weak, leads)) =
    subst IsPlain (defined_by l e.name.items s exported.0).named (symbol_plain (object_of l s.file) s.symbol)
export_plain l e plain (inr (among, lists, listed, weak, leads)) = all_contains IsPlain (imports_of l) e.name.items plain among

-- an export that is an import is among them, by its number
pub export_imported : (l : Link) (imports : List Import) (e : ExportName) (id : ℕ) → ImportsAre l (imports_of l) imports
    → IsExportedName l e
    → e.target ≡ target.Import id
    → IsImported l imports e.name.items id
export_imported l imports e id are (inl (s, exported, weak, leads)) is =
    let own : own_target l s ≡ target.Import id =
    sym (ap (definition_target l (imports_of l) e.name.items) exported.0) ∙ sym leads ∙ is in
    absurd (not_own l s id own)
export_imported l imports e id are (inr (among, lists, listed, weak, leads)) is =
    let number : position_or_len (bytes_eq e.name.items) (imports_of l) ≡ id =
    same (position_or_len (bytes_eq e.name.items) (imports_of l)) (sym leads ∙ is) in
    subst (λ (n : ℕ). IsImported l imports e.name.items n) number (imported l imports e.name.items are among)
  where
    same : (n : ℕ) → target.Import n ≡ target.Import id → n ≡ id
    same n e = cc
