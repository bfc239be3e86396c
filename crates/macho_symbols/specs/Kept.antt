-- What resolved symbols keep: the rows of the files, and the imports that are noted.
use Rattle.std.specs.Prelude.{◌≡◌, ℕ, ◌<◌, true, List, length, map, is_none, get_or}
use Rattle.macho_model.specs.Links.{Link}
use Rattle.macho_model.specs.Resolution.{SymbolId}
use Rattle.macho_symbol_names.specs.Kept.{FileRows, kept_of, no_file}
use Rattle.macho_symbols.specs.declared.solved.Import.{Import}

-- What resolved symbols keep: the rows of the files, and the names of the imports noted so far.
pub record ResolvedRows : Type 0 where
  pub files : List FileRows
  pub noted : List (List ℕ)

-- The symbols of this link's inputs are resolved, and these imports are noted.
pub record IsResolved (l : Link) (noted : List (List ℕ)) (r : ResolvedRows) : Type 0 where
  pub keeps : r.files ≡ map kept_of l.inputs
  pub notes : r.noted ≡ noted

abbrev pub symbol_id : ℕ → ℕ → SymbolId
symbol_id file symbol = record { file = file; symbol = symbol }

-- a file is an object, and has a symbol
abbrev pub HasSymbol : ResolvedRows → ℕ → ℕ → Type 0
HasSymbol r file symbol =
    (file < length r.files) × (is_none (get_or r.files file no_file).library ≡ true) × (symbol < length (get_or r.files file no_file).rows)

-- the names of the imports that are noted
abbrev pub noted_of : List Import → List (List ℕ)
noted_of imports = map (λ i. i.name.items) imports
