-- The first `__TEXT` is the first one of what is left.
use Rattle.std.proofs.Common.{◌≡◌, drop}
use Rattle.macho_linking.proofs.FirstText.{first_size}
use Rattle.macho_linking.proofs.sealing.text_size.Given as goal

abbrev pub invariant-loop-segment : goal.invariant-loop-segment
invariant-loop-segment l = first_size l.segments ≡ first_size (drop l.segment-index l.segments)
