-- What holds before segment k: those of the first k that have bytes in memory are listed.
use Rattle.std.proofs.Common.{◌≡◌, ◌==◌, not, filter, take}
use Rattle.macho_image_rules.proofs.segments.sized_segments.Given as goal

abbrev pub invariant-loop-segment : goal.invariant-loop-segment
invariant-loop-segment l = l.sized.items ≡ filter (λ s. not (s.size == 0)) (take l.segment-index l.segments)
