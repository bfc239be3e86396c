-- The types of the output sections: what holds before number k is that the list has those of the first k.
use Rattle.std.proofs.Common.{◌≡◌, map}
use Rattle.std.specs.List.{range_with_len}
use Rattle.macho_layout.specs.Names.{output_at}
use Rattle.macho_layout.proofs.plan.Plan.first_flags.Given as goal

abbrev pub invariant-loop-number : goal.invariant-loop-number
invariant-loop-number l = l.flags.items ≡ map (λ number. (output_at l.self number).kind) (range_with_len 0 l.number)
