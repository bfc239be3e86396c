use Rattle.std.proofs.Common.{◌≡◌}
use Rattle.macho_consumed.specs.steps.Listed.{refs_of}
use Rattle.macho_consumed.proofs.listing.sections.Given as goal

abbrev pub invariant-loop-number : goal.invariant-loop-number
invariant-loop-number l = l.refs.items ≡ refs_of l.kind l.files l.number
