use Rattle.std.proofs.Common.{ℕ, ◌<◌}
use Rattle.macho_model.specs.Objects.{section_at}
use Rattle.macho_object.specs.steps.Checks.{RelocationFits}
use Rattle.macho_object.proofs.outline.Outline.check_relocations.Given as goal

abbrev pub invariant-loop-index : goal.invariant-loop-index
invariant-loop-index l = (k : ℕ) → k < l.index → (r : ℕ) → r < (section_at l.self.input.now k).nreloc → RelocationFits l.self.input.now k r
