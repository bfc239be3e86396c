use Rattle.macho_fields.specs.steps.Stubs.{StubsStand}
use Rattle.macho_fields.proofs.stubs.put_stubs.Given as goal

-- the stubs so far stand
abbrev pub invariant-loop-index : goal.invariant-loop-index
invariant-loop-index g l = StubsStand (g.P.Places.look l.places) l.stubs l.index l.out
