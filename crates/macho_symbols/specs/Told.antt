-- What is told of chosen commons and of imports, by the link alone.
use Rattle.std.specs.Prelude.{◌≡◌, ℕ, ◌&&◌, not, if◌then◌else◌, true, false, List, [], ◌∷◌, ◌++◌, map, is_none, Some, length, get_or, ◌<◌, All, Contains}
use Rattle.std.specs.List.{list_any, fold}
use Rattle.std.specs.Str.{bytes_eq}
use Rattle.macho_model.specs.Needs.{is_imported}
use Rattle.macho_records.specs.Symbols.{common_size_of, common_exponent_of, is_global}
use Rattle.macho_model.specs.Links.{Link}
use Rattle.macho_model.specs.Resolution.{SymbolId, entry_at, name_at, definition_of, chosen_commons, Library, library_name}
use Rattle.macho_model.specs.Faults.{IsDuplicate}
use Rattle.macho_symbols.specs.declared.solved.Common.{Common}
use Rattle.macho_symbols.specs.declared.solved.Import.{Import}
use Rattle.macho_symbol_names.specs.declared.fault.SymbolFault.{SymbolFault}
use Rattle.macho_symbol_names.specs.declared.fault.SymbolFault.TheVariants.{DuplicateSymbol, UndefinedSymbol, ExportListMissing, OutOfMemory}

-- a common with its size, rounded up to its alignment, and the exponent of that
abbrev pub common_of : Link → SymbolId → Common
common_of l s = record { file = s.file; symbol = s.symbol; size = common_size_of (entry_at l s); align = common_exponent_of (entry_at l s) }

-- the commons that define their names, in order
abbrev pub CommonsAre : Link → List Common → Type 0
CommonsAre l commons = commons ≡ map (common_of l) (chosen_commons l)

-- a name has two strong definitions, in the files that are told; nothing is said of want of memory
abbrev pub IsDuplicateOf : Link → SymbolFault → Type 0
IsDuplicateOf l (DuplicateSymbol name first second) = IsDuplicate l name.items first second
IsDuplicateOf l (UndefinedSymbol name file) = ⊥
IsDuplicateOf l (ExportListMissing name) = ⊥
IsDuplicateOf l OutOfMemory = Unit {0}

-- the imports that are noted once a symbol is used: a name that a library defines is added, where it isn't noted
abbrev pub noting : Link → List (List ℕ) → SymbolId → List (List ℕ)
noting l noted s =
    if is_global (entry_at l s) && (is_imported l (name_at l s) && not (list_any (bytes_eq (name_at l s)) noted)) then noted
    ++ name_at l s ∷ [] else noted

-- a global symbol's name has a definition
abbrev pub IsDefined : Link → SymbolId → Type 0
IsDefined l s = is_global (entry_at l s) ≡ true → is_none (definition_of l (name_at l s)) ≡ false

-- a global symbol's name has none, and that is told; nothing is said of want of memory
abbrev pub IsUndefined : Link → SymbolId → SymbolFault → Type 0
IsUndefined l s (UndefinedSymbol name file) =
    (is_global (entry_at l s) ≡ true) × (is_none (definition_of l (name_at l s)) ≡ true) × (name.items ≡ name_at l s) × (file ≡ s.file)
IsUndefined l s (DuplicateSymbol name first second) = ⊥
IsUndefined l s (ExportListMissing name) = ⊥
IsUndefined l s OutOfMemory = Unit {0}

-- an import is of this name, and of the library that defines it
abbrev pub IsImportOf : Link → List ℕ → Import → Type 0
IsImportOf l name i =
    (i.name.items ≡ name) × (definition_of l name ≡ Some (Library i.file)) × (i.library.items ≡ library_name l i.file)

-- the imports are of these names, in order
pub record ImportsAre (l : Link) (noted : List (List ℕ)) (imports : List Import) : Type 0 where
  pub long : length imports ≡ length noted
  pub each : (k : ℕ) (d : Import) → k < length imports → IsImportOf l (get_or noted k []) (get_or imports k d)

-- the imports that are noted once a name is asked for, and once several are, in order
abbrev pub noting_name : Link → List (List ℕ) → List ℕ → List (List ℕ)
noting_name l noted name = if is_imported l name && not (list_any (bytes_eq name) noted) then noted ++ name ∷ [] else noted

unfoldable pub noting_names : Link → List (List ℕ) → List (List ℕ) → List (List ℕ)
noting_names l noted names = fold (noting_name l) noted names

-- each of some names has a definition
abbrev pub AreDefined : Link → List (List ℕ) → Type 0
AreDefined l names = All (λ name. is_none (definition_of l name) ≡ false) names

-- one of some names has none, and that is told; nothing is said of want of memory
abbrev pub IsMissing : Link → List (List ℕ) → SymbolFault → Type 0
IsMissing l names (ExportListMissing name) = Contains names name.items × (is_none (definition_of l name.items) ≡ true)
IsMissing l names (DuplicateSymbol name first second) = ⊥
IsMissing l names (UndefinedSymbol name file) = ⊥
IsMissing l names OutOfMemory = Unit {0}
