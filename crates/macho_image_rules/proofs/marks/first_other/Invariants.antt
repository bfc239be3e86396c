-- What holds before byte i: those before it without a mark are the wanted ones.
use Rattle.std.proofs.Common.{◌≡◌, ℕ, ◌<◌, false, get_or, slice_index}
use Rattle.macho_image_rules.proofs.marks.first_other.Given as goal

abbrev pub invariant-loop-i : goal.invariant-loop-i
invariant-loop-i l = (k : ℕ) → k < l.i → get_or l.marks k false ≡ false → slice_index l.found k ≡ slice_index l.wanted k
