-- The headers: what holds before number k is that the list has those of the first k.
use Rattle.std.proofs.Common.{◌≡◌, map, take}
use Rattle.macho_layout.specs.Headers.{header_of}
use Rattle.macho_layout.proofs.plan.Plan.headers.Given as goal

abbrev pub invariant-loop-one : goal.invariant-loop-one
invariant-loop-one l = l.headers.items ≡ map (header_of l.self l.extents l.segments) (take l.one-index l.placed)
