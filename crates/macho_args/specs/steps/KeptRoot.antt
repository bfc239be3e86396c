-- How the program reads `-syslibroot`: it keeps the path as it is given, and asks for its canonical path once,
-- after the words. The library path below the root is put in front then. Of several roots only the last one
-- matters, so what comes out is what the words say. Without a root no framework path is looked at.
use Rattle.std.specs.Prelude.{◌≡◌, List, ℕ, [], ◌∷◌, ◌++◌, codes, Option, Some, None, unwrap_or, Result}
use Rattle.std.specs.List.{AllZip}
use Rattle.macho_args.specs.declared.fault.ArgsFault.{ArgsFault}
use Rattle.macho_args.specs.Effects.{joined, ◌>>=◌}
use Rattle.macho_args.specs.SearchPaths.{IsMoved, standard_frameworks}
use Rattle.macho_args.specs.Settings.{Settings, fresh}
use Rattle.macho_args.specs.Store.{CanonicalPaths, Directories, IsToldCanonical}
use Rattle.macho_args.specs.Words.{read_from, without_inputs}

-- the path is kept, and the library paths before it go
abbrev pub keep_root : List ℕ → Settings → Settings
keep_root path s = record s { sysroot = Some path; lib_search_path = [] }

-- what all words say, where the root is kept so
unfoldable pub kept_of : List (List ℕ) → Result Settings ArgsFault
kept_of words = read_from keep_root 0 0 words fresh >>= λ s. without_inputs s.generate s.inputs s

-- the root takes the place of the path that was kept
abbrev pub settled : List ℕ → Settings → Settings
settled root s = record s { sysroot = Some root; lib_search_path = joined root (codes "usr/lib") ∷ s.lib_search_path }

-- the root for a path that was given: its canonical path, else the path itself
pub record IsRootFor (known : Option CanonicalPaths) (path root : List ℕ) : Type 0 where
  pub canonical : Option (List ℕ)
  pub told : IsToldCanonical known path canonical
  pub is : root ≡ unwrap_or canonical path

-- the root for the path that was kept is settled
pub record IsSettled (known : Option CanonicalPaths) (path : List ℕ) (kept said : Settings) : Type 0 where
  pub root : List ℕ
  pub root_for : IsRootFor known path root
  pub is : said ≡ settled root kept

-- without a root nothing changes
abbrev pub SettlesRoot : Option CanonicalPaths → Option (List ℕ) → Settings → Settings → Type 0
SettlesRoot known (Some path) kept said = IsSettled known path kept said
SettlesRoot known None kept said = said ≡ kept

-- each framework path goes below the root, and the root's standard ones come last
pub record IsBelow (known : Option Directories) (root : List ℕ) (said args : Settings) : Type 0 where
  pub frameworks : List (List ℕ)
  pub each : AllZip (IsMoved known root) said.framework_search_path frameworks
  pub is : args ≡ record said { framework_search_path = frameworks ++ standard_frameworks root }

-- without a root only the standard framework paths are added, below `/`
abbrev pub FollowsRoot : Option Directories → Option (List ℕ) → Settings → Settings → Type 0
FollowsRoot known (Some root) said args = IsBelow known root said args
FollowsRoot known None said args =
    args ≡ record said { framework_search_path = said.framework_search_path ++ standard_frameworks (codes "/") }
