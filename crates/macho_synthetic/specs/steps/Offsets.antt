-- Offsets of initializers, by the look-ups alone.
use Rattle.std.specs.Prelude.{◌≡◌, ℕ, ◌+◌, ◌*◌, ◌^◌, ◌<◌, ◌≤◌, ◌⊎◌, List, length, get_or}
use Rattle.macho_bytes.specs.Numbers.{le_at}
use Rattle.macho_model.specs.declared.targets.Target.{Target}
use Rattle.macho_model.specs.declared.targets.Target.TheVariants as target
use Rattle.macho_consumed.specs.declared.rows.Initializer.{Initializer}
use Rattle.macho_fields.specs.Looks.{Look}
use Rattle.macho_synthetic.specs.declared.fault.MadeFault.{MadeFault}
use Rattle.macho_synthetic.specs.declared.fault.MadeFault.TheVariants.{TooLarge, OutOfMemory}

-- a place in a section has an offset of 32 bits from the base
abbrev pub IsOffset : Look → Target → ℕ → Type 0
IsOffset look (target.Section file section offset) n = (n < 2 ^ 32) × (look.base + n ≡ look.section file section + offset)
IsOffset look t n = ⊥

-- or none of 32 bits
abbrev pub IsAway : ℕ → ℕ → Type 0
IsAway base address = (address < base) ⊎ (base + 2 ^ 32 ≤ address) ⊎ (2 ^ 64 ≤ address)

abbrev pub HasNoOffset : Look → Target → Type 0
HasNoOffset look (target.Section file section offset) = IsAway look.base (look.section file section + offset)
HasNoOffset look t = Unit {0}

-- what an initializer leads to
abbrev pub target_in : Look → Initializer → Target
target_in look row = look.target row.file row.relocation.r_symbolnum

-- the offsets of the first initializers stand, each at its number
abbrev pub OffsetsStand : Look → List Initializer → ℕ → List ℕ → Type 0
OffsetsStand look rows n out = (k : ℕ) (d : Initializer) → k < n → IsOffset look (target_in look (get_or rows k d)) (le_at 4 out (4 * k))

-- some initializer has none
pub record HasFarRow (look : Look) (rows : List Initializer) : Type 0 where
  pub number : ℕ
  pub among : number < length rows
  pub far : (d : Initializer) → HasNoOffset look (target_in look (get_or rows number d))

abbrev pub IsFarOrMemory : Look → List Initializer → MadeFault → Type 0
IsFarOrMemory look rows TooLarge = HasFarRow look rows
IsFarOrMemory look rows OutOfMemory = ⊥
