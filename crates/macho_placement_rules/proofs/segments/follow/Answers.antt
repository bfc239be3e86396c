-- Whether segments stand one behind the other.
--
-- What holds of the first k and of the next one behind its neighbour holds of one more; at the end these are all.
use Rattle.std.proofs.Common.{arith}
use Rattle.macho_model.specs.Placement.{Follows}
use Rattle.macho_placement_rules.proofs.Neighbours.{next_more, next_all}
use Rattle.macho_placement_rules.proofs.segments.follow.Goals as goal

pub loop-next-preserved : goal.loop-next-preserved
loop-next-preserved c = λ t same. next_more (Follows t) c.args.segments.now c.loop-next.next _ _ (c.loop-next.invariant t same)
    (omega arith) (omega arith) (c.if-not-follows.ensures.found t same)

pub returns-clause-found : goal.returns-clause-found
returns-clause-found c = λ t same. next_all (Follows t) c.args.segments.now c.loop-next.next (c.loop-next.invariant t same) (omega arith)
