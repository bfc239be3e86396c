-- What holds before part k.
use Rattle.macho_placement_rules.specs.steps.Parts.{IsSwept}
use Rattle.macho_placement_rules.proofs.parts.none_reaches_the_next.Given as goal

abbrev pub invariant-loop-part : goal.invariant-loop-part
invariant-loop-part l = IsSwept l.parts l.part-index l.last
