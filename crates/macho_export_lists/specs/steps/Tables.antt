-- How numbers of patterns are kept by parts of patterns.
use Rattle.std.specs.Prelude.{◌≡◌, ℕ, ◌<◌, ◌==◌, true, Bool, List, [], length, get_or, Option, Some, None}
use Rattle.std.specs.List.{list_any}
use Rattle.std.specs.Str.{bytes_eq}
use Rattle.std.specs.HashMap.{HashMap, get_by}
use Rattle.std.specs.declared.vec.Vec.{Vec}
use Rattle.macho_export_lists.specs.Entries.{texts_of}

-- a number is among numbers
abbrev pub has : List ℕ → ℕ → Bool
has numbers n = list_any (λ m. m == n) numbers

-- the numbers of a group, none where it isn't there
abbrev pub numbers_at : List (List ℕ) → Option ℕ → List ℕ
numbers_at groups None = []
numbers_at groups (Some group) = get_or groups group []

-- the numbers that were noted under a part
abbrev pub numbers_of : {A B S : Type 0} → HashMap (Vec ℕ A) ℕ S → List (Vec ℕ B) → List ℕ → List ℕ
numbers_of parts groups q = numbers_at (texts_of groups) (get_by (λ k. bytes_eq q k.items) parts)

-- No number is lost.
pub record KeepsNumbers (old new : List ℕ) : Type 0 where
  pub all : (n : ℕ) → has old n ≡ true → has new n ≡ true

-- No group loses a number.
pub record KeepsGroups {A : Type 0} (old new : List (Vec ℕ A)) : Type 0 where
  pub each : (group : ℕ) → KeepsNumbers (get_or (texts_of old) group []) (get_or (texts_of new) group [])

-- No part loses a number.
pub record KeepsParts {A B S : Type 0} (old : HashMap (Vec ℕ A) ℕ S) (was : List (Vec ℕ B)) (new : HashMap (Vec ℕ A) ℕ S)
    (groups : List (Vec ℕ B)) : Type 0 where
  pub each : (q : List ℕ) → KeepsNumbers (numbers_of old was q) (numbers_of new groups q)

-- A group is there, and is that of a part.
pub record IsGroup {A B S : Type 0} (parts : HashMap (Vec ℕ A) ℕ S) (groups : List (Vec ℕ B)) (part : List ℕ) (group : ℕ)
    : Type 0 where
  pub within : group < length groups
  pub found : get_by (λ k. bytes_eq part k.items) parts ≡ Some group
