-- Stubs of a plan: what holds before stub k is that the first k were added.
use Rattle.std.proofs.Common.{take}
use Rattle.macho_sizing.specs.steps.Planned.{AddsStubs}
use Rattle.macho_sizing.proofs.plan.add_stubs.Given as goal

abbrev pub invariant-loop-number : goal.invariant-loop-number
invariant-loop-number l = AddsStubs l.tables.slots (take l.number l.tables.stubs) l.initial.plan l.plan
