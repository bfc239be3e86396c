-- Commons of a plan: what holds before common k is that the first k were added.
use Rattle.std.proofs.Common.{◌≡◌, take}
use Rattle.macho_sizing.specs.steps.Planned.{common_specs}
use Rattle.macho_sizing.proofs.Adding.{with_commons}
use Rattle.macho_sizing.proofs.plan.add_commons.Given as goal

abbrev pub invariant-loop-number : goal.invariant-loop-number
invariant-loop-number l = l.plan ≡ with_commons l.initial.plan (common_specs (take l.number l.commons))
