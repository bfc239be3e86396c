-- The meaning of a command line: what its words say, and then the rule on framework paths.
use Rattle.std.specs.Prelude.{◌≡◌, ℕ, drop, List, [], ◌∷◌, ◌++◌, codes, Bool, ◌&&◌, nat_eq, if◌then◌else◌, Option, unwrap_or, Ok, Err}
use Rattle.std.specs.List.{AllZip, starts_with}
use Rattle.macho_args.specs.declared.fault.ArgsFault.{ArgsFault}
use Rattle.macho_args.specs.Effects.{joined}
use Rattle.macho_args.specs.Settings.{Settings}
use Rattle.macho_args.specs.Store.{Directories, FileSystem, IsToldCanonical, IsToldDirectory}
use Rattle.macho_args.specs.Words.{args_of}

-- the two standard framework paths below a root
abbrev pub standard_frameworks : List ℕ → List (List ℕ)
standard_frameworks root =
    joined root (codes "Library/Frameworks") ∷ joined root (codes "System/Library/Frameworks") ∷ []

-- A framework path, and what becomes of it: one that begins with `/` goes below the root, if a directory stands there. (Below the root `/`
-- each path stays as it is.)
pub record IsMoved (known : Option Directories) (root path new : List ℕ) : Type 0 where
  pub is_directory : Bool
  pub told : IsToldDirectory known (joined root (drop 1 path)) is_directory
  pub is : new ≡ (if starts_with nat_eq path (codes "/") && is_directory then joined root (drop 1 path) else path)

-- The fields are the meaning of the words: what the words say, by the canonical paths that are told; and then framework paths go below
-- the root, `/` where none is given, by the directories that are told, and its standard ones come last.
pub record IsParsed (files : FileSystem) (words : List (List ℕ)) (args : Settings) : Type 0 where
  pub canonical : List ℕ → Option (List ℕ)
  pub told : (path : List ℕ) → IsToldCanonical files.canonical_paths path (canonical path)
  pub said : Settings
  pub read : args_of canonical words ≡ Ok said
  pub root : List ℕ
  pub is_root : root ≡ unwrap_or said.sysroot (codes "/")
  pub frameworks : List (List ℕ)
  pub each : AllZip (IsMoved files.directories root) said.framework_search_path frameworks
  pub is : args ≡ record said { framework_search_path = frameworks ++ standard_frameworks root }

-- The words have no meaning: they have this fault, whatever the canonical paths are.
pub record IsRefused (words : List (List ℕ)) (fault : ArgsFault) : Type 0 where
  pub told : (canonical : List ℕ → Option (List ℕ)) → args_of canonical words ≡ Err fault
