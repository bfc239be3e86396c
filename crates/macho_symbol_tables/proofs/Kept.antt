-- What keeps the places of exported names is what the link asks for, and a trie can be made of the names.
--
-- An export that is an import keeps the number of its library, which is the first place of the library's name among the libraries; any
-- other keeps the greatest value. The names are those that are told.
use Rattle.std.proofs.Common.{◌≡◌, ◌≢◌, ℕ, List, [], map, length, refl, sym, ap, subst, ◌∙◌, All, AllPairs, Contains}
use Rattle.macho_model.specs.declared.targets.Target.{Target}
use Rattle.macho_model.specs.declared.targets.Target.TheVariants as target
use Rattle.macho_model.specs.Links.{Link}
use Rattle.macho_model.specs.Needs.{import_library}
use Rattle.macho_model.specs.Told.{ToldExport}
use Rattle.macho_bytes.proofs.Members.{contains_all, all_contains, map_contains}
use Rattle.macho_symbols.specs.declared.exports.ExportName.{ExportName}
use Rattle.macho_symbols.specs.declared.solved.Import.{Import}
use Rattle.macho_symbols.specs.Exported.{export_names}
use Rattle.macho_trie.specs.Exports.{Exported, as_reexport, REEXPORT}
use Rattle.macho_trie.specs.Sorting.{HaveNoNul}
use Rattle.macho_promise.specs.Sizes.{kept_for}
use Rattle.macho_linkedit.specs.declared.exports.ExportSays.{ExportSays}
use Rattle.macho_linkedit.specs.declared.exports.NamedExport.{NamedExport}
use Rattle.macho_linkedit.specs.Tries.{kept_of, names_in, AreKept}
use Rattle.macho_answer.specs.Linked.{export_of}
use Rattle.macho_promise.specs.Views.{IsPlain}
use Rattle.macho_symbol_tables.specs.Exports.{exports_told, AreExportsOf, ImportsArePlain, CanBeTrie}
use Rattle.macho_symbol_tables.specs.Laws.{KeptAreOne}
use Rattle.macho_symbol_tables.specs.steps.Says.{IsAmong, number_in, says_kept, seen}
use Rattle.macho_symbol_tables.proofs.Rising.{names_rise, names_differ}
use Rattle.macho_symbol_tables.proofs.Exported.{IsExportedName, exports_are_told, export_plain, export_imported}
use Rattle.macho_bytes.proofs.Maps.{map_map, map_agree}

-- a name with what keeps its place, of what it says
abbrev keeps : List ℕ × ExportSays → List ℕ × Exported
keeps (name, says) = (name, kept_of says)

-- an export that is an import is one of them
pub export_among : (l : Link) (exports : List ExportName) (imports : List Import) (libraries : List (List ℕ)) (e : ExportName)
    → AreExportsOf l exports imports libraries
    → Contains exports e → IsAmong (length imports) e.target
export_among l exports imports libraries e of there = by e.target refl
  where
    by : (t : Target) → e.target ≡ t → IsAmong (length imports) t
    by (target.Import id) is =
        (export_imported l imports e id of.imports_are (all_contains (IsExportedName l) exports e of.exports_are.each there) is).below
    by (target.Section file section offset) is = tt
    by (target.Common id) is = tt
    by target.Base is = tt
    by (target.Absolute value) is = tt
    by target.None is = tt

-- what keeps the place of an exported name, in a few words more than the code's
pub keeps_place : (l : Link) (exports : List ExportName) (imports : List Import) (libraries : List (List ℕ)) (e : ExportName)
    (says : ExportSays)
    → AreExportsOf l exports imports libraries → Contains exports e
    → kept_of says ≡ kept_of (says_kept imports libraries e.target)
    → kept_of says ≡ kept_for l e.name.items e.target
keeps_place l exports imports libraries e says of there is = is ∙ by e.target refl
  where
    by : (t : Target) → e.target ≡ t → kept_of (says_kept imports libraries t) ≡ kept_for l e.name.items t
    by (target.Import id) leads =
        let one = export_imported l imports e id of.imports_are (all_contains (IsExportedName l) exports e of.exports_are.each there)
        leads in
        ap (λ (n : ℕ). as_reexport REEXPORT n [])
        (ap (number_in libraries) one.library
        ∙ ap (λ (names : List (List ℕ)). number_in names (import_library l e.name.items)) of.libraries_are)
    by (target.Section file section offset) leads = refl
    by (target.Common id) leads = refl
    by target.Base leads = refl
    by (target.Absolute value) leads = refl
    by target.None leads = refl

-- Names with what they say, of which each keeps the place of an export.
pub are_kept : (l : Link) (exports : List ExportName) (imports : List Import) (libraries : List (List ℕ)) (says : ExportName → ExportSays)
    (v : List NamedExport)
    → AreExportsOf l exports imports libraries
    → All (λ e. kept_of (says e) ≡ kept_of (says_kept imports libraries e.target)) exports
    → map seen v ≡ map (λ e. (e.name.items, says e)) exports → AreKept l (exports_told exports) v
are_kept l exports imports libraries says v of same is = record {
  told_are = exports_are_told l exports of.exports_are;
  are =
      sym (map_map keeps seen v) ∙ ap (map keeps) is ∙ map_map keeps (λ (e : ExportName). (e.name.items, says e)) exports
      ∙ map_agree made asked exports each
      ∙ sym (map_map (λ (t : ToldExport). (t.name, kept_for l t.name t.target)) export_of exports);
}
  where
    made : ExportName → List ℕ × Exported
    made e = (e.name.items, kept_of (says e))

    asked : ExportName → List ℕ × Exported
    asked e = (e.name.items, kept_for l e.name.items e.target)

    each : All (λ (e : ExportName). made e ≡ asked e) exports
    each =
        contains_all (λ (e : ExportName). made e ≡ asked e) exports
        (λ e there. ap (λ (x : Exported). (e.name.items, x)) (keeps_place l exports imports libraries e (says e) of there
        (all_contains (λ (f : ExportName). kept_of (says f) ≡ kept_of (says_kept imports libraries f.target)) exports e same there)))

-- the names are those of the exports
pub names_seen : (exports : List ExportName) (says : ExportName → ExportSays) (v : List NamedExport)
    → map seen v ≡ map (λ e. (e.name.items, says e)) exports → names_in v ≡ export_names exports
names_seen exports says v is =
    sym (map_map (λ (p : List ℕ × ExportSays). p.0) seen v) ∙ ap (map (λ (p : List ℕ × ExportSays). p.0)) is
    ∙ map_map (λ (p : List ℕ × ExportSays). p.0) (λ (e : ExportName). (e.name.items, says e)) exports

-- THE names of a trie.
pub can_be_trie : (l : Link) (exports : List ExportName) (imports : List Import) (libraries : List (List ℕ))
    (says : ExportName → ExportSays)
    (v : List NamedExport)
    → AreExportsOf l exports imports libraries → ImportsArePlain l → map seen v ≡ map (λ e. (e.name.items, says e)) exports → CanBeTrie v
can_be_trie l exports imports libraries says v of plain is = record {
  distinct =
      subst (λ (names : List (List ℕ)). AllPairs (λ x y. x ≢ y) names) (sym same)
      (names_differ (export_names exports) (names_rise (export_names exports) of.exports_are.rising));
  plain = subst HaveNoNul (sym same) each;
}
  where
    same : names_in v ≡ export_names exports
    same = names_seen exports says v is

    all : All IsPlain (export_names exports)
    all =
        contains_all IsPlain (export_names exports)
        (λ name there. by name (map_contains (λ (e : ExportName). e.name.items) exports name there))
      where
        by : (name : List ℕ) → (e : ExportName) × Contains exports e × (e.name.items ≡ name) → IsPlain name
        by name (e, there, named) =
            subst IsPlain named (export_plain l e plain (all_contains (IsExportedName l) exports e of.exports_are.each there))

    each : HaveNoNul (export_names exports)
    each k lt j below = all k [] lt j 0 below

-- THE law on what keeps places.
pub kept_are_one : KeptAreOne
kept_are_one l told exports more one other = one.are ∙ sym other.are
