use Rattle.std.proofs.Common.{ℕ, ◌<◌}
use Rattle.macho_object.specs.steps.Checks.{RelocationFits}
use Rattle.macho_object.proofs.outline.Outline.check_relocations_of.Given as goal

abbrev pub invariant-loop-index : goal.invariant-loop-index
invariant-loop-index l = (k : ℕ) → k < l.index → RelocationFits l.self.input.now l.section k
