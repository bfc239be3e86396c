-- The numbers of libraries, as a table finds them.
use Rattle.std.specs.Prelude.{◌≡◌, ℕ, Bool, List, Option, bytes_eq}
use Rattle.std.specs.Borrow.{Bor}
use Rattle.std.specs.List.{position}

-- two borrowed texts are the same
abbrev pub same_text : Bor (List ℕ) → Bor (List ℕ) → Bool
same_text x y = bytes_eq x.now y.now

-- a look-up of a name finds its first place among the libraries, or nothing where it is none of them
pub record FindsPlaces (libraries : List (List ℕ)) (find : Bor (List ℕ) → Option ℕ) : Type 0 where
  pub each : (q : Bor (List ℕ)) → find q ≡ position (bytes_eq q.now) libraries
