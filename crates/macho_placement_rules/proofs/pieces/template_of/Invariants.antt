-- What holds before section k: the greatest alignment of the first k.
use Rattle.std.proofs.Common.{◌≡◌, take}
use Rattle.macho_placement_rules.specs.steps.Pieces.{template_exponent_of}
use Rattle.macho_placement_rules.proofs.pieces.template_of.Given as goal

abbrev pub invariant-loop-spec : goal.invariant-loop-spec
invariant-loop-spec l = l.align ≡ template_exponent_of (take l.spec-index l.specs)
