use Rattle.std.proofs.Common.{ℕ, ◌<◌}
use Rattle.macho_object.specs.steps.Checks.{SymbolFits}
use Rattle.macho_object.proofs.outline.Outline.check_symbols.Given as goal

abbrev pub invariant-loop-index : goal.invariant-loop-index
invariant-loop-index l = (k : ℕ) → k < l.index → SymbolFits l.self.input.now k
