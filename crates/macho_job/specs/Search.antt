-- Where an input is sought: the paths that are tried, in their order, and the first that holds a file.
use Rattle.std.specs.Prelude.{◌≡◌, ℕ, List, [], ◌∷◌, ◌++◌, codes, Option, Some, None, IfSome, All}
use Rattle.std.specs.List.{flat_map}
use Rattle.std.specs.FinMap.{get}
use Rattle.macho_args.specs.Effects.{joined}
use Rattle.macho_args.specs.Settings.{Settings, InputKind, file, library, framework}
use Rattle.macho_args.specs.Store.{Store}

-- a library NAME in a folder: `libNAME.tbd`, then `libNAME.dylib`
abbrev pub library_files : List ℕ → List ℕ → List (List ℕ)
library_files name folder =
    joined folder (codes "lib" ++ (name ++ codes ".tbd")) ∷ joined folder (codes "lib" ++ (name ++ codes ".dylib")) ∷ []

-- a framework X in a folder: `X.framework/X.tbd`, then `X.framework/X`
abbrev pub framework_files : List ℕ → List ℕ → List (List ℕ)
framework_files name folder =
    joined folder (name ++ (codes ".framework/" ++ (name ++ codes ".tbd"))) ∷ joined folder (name ++ (codes ".framework/" ++ name)) ∷ []

-- The paths at which an input is sought: a file at its own; a library in each library path, a framework in each framework path.
abbrev pub candidates_of : Settings → InputKind → (name : List ℕ) → List (List ℕ)
candidates_of s file path = path ∷ []
candidates_of s library name = flat_map (library_files name) s.lib_search_path
candidates_of s framework name = flat_map (framework_files name) s.framework_search_path

-- What stands under a path: these bytes, or no file. Where the store isn't told, that is open.
abbrev pub FileIs : Option Store → Option (List ℕ) → List ℕ → Type 0
FileIs told held path = IfSome told (λ files. get files path ≡ held)

-- Of some paths this one is the first that holds a file, and it holds these bytes.
pub record IsFirstHeld (told : Option Store) (paths : List (List ℕ)) (path bytes : List ℕ) : Type 0 where
  pub before : List (List ℕ)
  pub behind : List (List ℕ)
  pub split : paths ≡ before ++ path ∷ behind
  pub missing : All (FileIs told None) before
  pub held : FileIs told (Some bytes) path
