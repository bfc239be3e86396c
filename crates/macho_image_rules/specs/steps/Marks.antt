-- Bytes of a section that are marked, since they stand in a field.
use Rattle.std.specs.Prelude.{◌≡◌, ℕ, ◌+◌, ◌^◌, ◌<◌, ◌≤◌, ◌⊎◌, true, false, Bool, List, length, get_or}
use Rattle.macho_model.specs.Fields.{is_prefix_type}
use Rattle.macho_model.specs.Objects.{relocation_at}

abbrev pub IsMarked : List Bool → ℕ → Type 0
IsMarked marks k = get_or marks k false ≡ true

-- The bytes from one place up to another are marked, too.
pub record MarkedMore (from to : ℕ) (old new : List Bool) : Type 0 where
  pub long : length new ≡ length old
  pub kept : (k : ℕ) → IsMarked old k → IsMarked new k
  pub set : (k : ℕ) → from ≤ k → k < to → IsMarked new k
  pub only : (k : ℕ) → IsMarked new k → IsMarked old k ⊎ ((from ≤ k) × (k < to))

-- A relocation has a field of its own, and a byte stands in it.
pub record Covers (b : List ℕ) (section r k : ℕ) : Type 0 where
  pub own : is_prefix_type (relocation_at b section r).r_type ≡ false
  pub from : (relocation_at b section r).r_address ≤ k
  pub to : k < (relocation_at b section r).r_address + 2 ^ (relocation_at b section r).r_length

-- The marks of the fields of the first n relocations.
pub record AreMarks (b : List ℕ) (section n size : ℕ) (marks : List Bool) : Type 0 where
  pub long : length marks ≡ size
  pub set : (r k : ℕ) → r < n → Covers b section r k → IsMarked marks k
  pub only : (k : ℕ) → IsMarked marks k → (r : ℕ) × (r < n) × Covers b section r k
