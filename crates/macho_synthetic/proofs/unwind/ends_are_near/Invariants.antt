-- The ends of the entries so far are told by offsets of 32 bits.
use Rattle.std.proofs.Common.{take, ◌+◌, ◌^◌, ◌<◌}
use Rattle.std.specs.List.{All}
use Rattle.macho_synthetic.proofs.unwind.ends_are_near.Given as goal

abbrev pub invariant-loop-entry : goal.invariant-loop-entry
invariant-loop-entry l = All (λ e. e.start + e.length < l.base + 2 ^ 32) (take l.entry-index l.entries)
