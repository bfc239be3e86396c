-- A row that gets longer by zeros has the same elements, 0 behind its end; each step brings its end nearer to the section.
use Rattle.std.proofs.Common.{◌≡◌, ℕ, ◌+◌, ◌-◌, get_or, length}
use Rattle.macho_places.proofs.addresses.lengthen.Given as goal

abbrev pub invariant-loop-row : goal.invariant-loop-row
invariant-loop-row l = (k : ℕ) → get_or l.row.items k 0 ≡ get_or l.initial.row.items k 0

abbrev pub decreases-loop-row : goal.decreases-loop-row
decreases-loop-row l = l.section + 1 - length l.row.items
