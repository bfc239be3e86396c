use Rattle.macho_fields.specs.steps.Stubs.{SlotsAsked}
use Rattle.macho_fields.proofs.slots.ask_slots.Given as goal

-- the slots so far are asked for
abbrev pub invariant-loop-index : goal.invariant-loop-index
invariant-loop-index g l = SlotsAsked (g.P.Places.look l.places) l.slots l.index l.initial.run.items l.run.items
