use Rattle.std.proofs.Common.{ℕ, ◌<◌, ◌≤◌, slice_index, length}
use Rattle.macho_wire.proofs.uleb.first_groups.Given as goal

-- the groups so far go on
abbrev pub invariant-loop-count : goal.invariant-loop-count
invariant-loop-count l = (l.count ≤ length l.bytes) × ((k : ℕ) → k < l.count → 128 ≤ slice_index l.bytes k)
