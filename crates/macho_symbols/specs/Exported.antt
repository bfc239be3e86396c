-- What a resolved link exports: names that objects define and show, and names of libraries that export lists contain.
use Rattle.std.specs.Prelude.{◌≡◌, ℕ, ◌+◌, ◌<◌, ◌⊎◌, true, false, List, length, map, get_or, All, Contains, Option, Some, None}
use Rattle.std.specs.Cmp.Lexicographic.{slice_cmp}
use Rattle.std.specs.Ordering.{nat_cmp}
use Rattle.std.specs.declared.cmp.Ordering.TheVariants.{Less}
use Rattle.std.specs.List.{position_or_len}
use Rattle.std.specs.Str.{bytes_eq}
use Rattle.macho_records.specs.Symbols.{is_weak_of}
use Rattle.macho_model.specs.declared.targets.Target.TheVariants as target
use Rattle.macho_model.specs.Exports.{has_lists, is_listed, IsExported}
use Rattle.macho_model.specs.Links.{Link}
use Rattle.macho_model.specs.Resolution.{SymbolId, definition_of, entry_at}
use Rattle.macho_model.specs.Targets.{definition_target}
use Rattle.macho_export_lists.specs.Entries.{ListEntries, IsListOf}
use Rattle.macho_symbols.specs.declared.exports.ExportName.{ExportName}

-- the export lists of a link are given as one list of their entries, or as none where there are none
abbrev pub AreLists : Link → Option ListEntries → Type 0
AreLists l None = has_lists l ≡ false
AreLists l (Some e) = (has_lists l ≡ true) × IsListOf l.export_lists e

-- a name is exported from an object, with its target
abbrev pub IsFromObject : Link → List (List ℕ) → ExportName → Type 0
IsFromObject l noted e =
    (s : SymbolId) × IsExported l e.name.items s × (e.weak ≡ is_weak_of (entry_at l s))
    × (e.target ≡ definition_target l noted e.name.items (definition_of l e.name.items))

-- a noted import is exported on, with its number
abbrev pub IsReexport : Link → List (List ℕ) → ExportName → Type 0
IsReexport l noted e =
    Contains noted e.name.items × (has_lists l ≡ true) × (is_listed l e.name.items ≡ true) × (e.weak ≡ false)
    × (e.target ≡ target.Import (position_or_len (bytes_eq e.name.items) noted))

-- each name is less than the next
abbrev pub AreRising : List (List ℕ) → Type 0
AreRising names = (k : ℕ) (d : List ℕ) → k + 1 < length names → slice_cmp nat_cmp (get_or names k d) (get_or names (k + 1) d) ≡ Less

abbrev pub export_names : List ExportName → List (List ℕ)
export_names es = map (λ e. e.name.items) es

-- These are the exports of a link where some imports are noted: all of them and no other, in rising order of names.
pub record AreExports (l : Link) (noted : List (List ℕ)) (es : List ExportName) : Type 0 where
  pub each : All (λ e. IsFromObject l noted e ⊎ IsReexport l noted e) es
  pub objects : (name : List ℕ) (s : SymbolId) → IsExported l name s → Contains (export_names es) name
  pub libraries : (name : List ℕ) → Contains noted name → has_lists l ≡ true → is_listed l name ≡ true → Contains (export_names es) name
  pub rising : AreRising (export_names es)
