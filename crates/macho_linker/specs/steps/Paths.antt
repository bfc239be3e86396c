-- Where a path's last part ends and begins.
use Rattle.std.specs.Prelude.{◌≡◌, ℕ, ◌-◌, ◌==◌, ◌≤◌, ◌<◌, ◌⊎◌, not, Bool, List, get_or}
use Rattle.macho_model.specs.Faults.{SLASH}

-- Of the first bytes of a path, so many: the place behind the last that is a slash, or the last that is none; 0 where
-- there is none.
pub record IsBehindLast (path : List ℕ) (count : ℕ) (slash : Bool) (end : ℕ) : Type 0 where
  pub within : end ≤ count
  pub none : (k d : ℕ) → end ≤ k → k < count → (get_or path k d == SLASH) ≡ not slash
  pub last : (end ≡ 0) ⊎ ((d : ℕ) → (get_or path (end - 1) d == SLASH) ≡ slash)
