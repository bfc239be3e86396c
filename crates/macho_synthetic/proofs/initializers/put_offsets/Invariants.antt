use Rattle.macho_synthetic.specs.steps.Offsets.{OffsetsStand}
use Rattle.macho_synthetic.proofs.initializers.put_offsets.Given as goal

-- the offsets so far stand
abbrev pub invariant-loop-index : goal.invariant-loop-index
invariant-loop-index g l = OffsetsStand (g.P.Places.look l.places) l.rows l.index l.out
