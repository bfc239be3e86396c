use Rattle.std.proofs.Common.{◌≡◌, ◌++◌}
use Rattle.macho_consumed.specs.steps.Listed.{refs_in}
use Rattle.macho_consumed.proofs.listing.add_sections.Given as goal

abbrev pub invariant-loop-section : goal.invariant-loop-section
invariant-loop-section l = l.refs.items ≡ l.initial.refs.items ++ refs_in l.kind l.number l.file.bytes l.section
