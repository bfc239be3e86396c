-- Parts of the definitions of `Words`, by names that proofs use.
use Rattle.std.specs.Prelude.{ℕ, ◌^◌, ◌==◌, ◌&&◌, if◌then◌else◌}
use Rattle.macho_records.specs.Numbers.{bits}

-- the bytes that a load or store moves: 2 to the power of its size; size 0 of a vector register with the upper bit of
-- opc set stands for 16
abbrev pub load_scale : ℕ → ℕ
load_scale w = if (bits 30 2 w == 0) && (bits 26 1 w == 1) && (bits 23 1 w == 1) then 16 else 2 ^ bits 30 2 w
