-- What is known of the files outside: finite sets and maps whose keys are paths, as their bytes.
use Rattle.std.specs.Prelude.{◌≡◌, ℕ, Bool, List, Option, IfSome}
use Rattle.std.specs.Ordering.{nat_cmp}
use Rattle.std.specs.Cmp.Lexicographic.{slice_cmp}
use Rattle.std.specs.FinMap.{FinMap, get}
use Rattle.std.specs.FinSet.{FinSet, contains}

-- the files that are held: for each path its bytes
abbrev pub Store : Type 0
Store = FinMap (slice_cmp nat_cmp) (List ℕ)

-- the paths that are directories
abbrev pub Directories : Type 0
Directories = FinSet (slice_cmp nat_cmp)

-- the canonical path of each path that has one
abbrev pub CanonicalPaths : Type 0
CanonicalPaths = FinMap (slice_cmp nat_cmp) (List ℕ)

-- What may be answered to whether a path is a directory. Where directories aren't told, that is open.
abbrev pub IsToldDirectory : Option Directories → List ℕ → Bool → Type 0
IsToldDirectory told path answer = IfSome told (λ known. answer ≡ contains known path)

-- What may be answered as the canonical path of a path. Where canonical paths aren't told, that is open.
abbrev pub IsToldCanonical : Option CanonicalPaths → List ℕ → Option (List ℕ) → Type 0
IsToldCanonical told path answer = IfSome told (λ known. answer ≡ get known path)

-- What a file system tells: the directories, the canonical paths and the files, each as far as it is told, and how often its reads and
-- its writes have failed.
pub record FileSystem : Type 0 where
  pub directories : Option Directories
  pub canonical_paths : Option CanonicalPaths
  pub files : Option Store
  pub failed_reads : ℕ
  pub failed_writes : ℕ
