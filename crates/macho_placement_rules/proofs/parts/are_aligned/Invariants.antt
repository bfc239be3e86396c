-- What holds before part k: the first k begin at multiples of their alignments.
use Rattle.std.proofs.Common.{◌≡◌, ℕ, ◌<◌, ◌%◌, ◌^◌, get_or}
use Rattle.macho_placement_rules.specs.declared.parts.Part.{Part}
use Rattle.macho_placement_rules.proofs.parts.are_aligned.Given as goal

abbrev pub invariant-loop-part : goal.invariant-loop-part
invariant-loop-part l =
    (k : ℕ) (d : Part) → k < l.part-index → (get_or l.parts k d).start % 2 ^ (get_or l.parts k d).exponent ≡ 0
