use Rattle.std.proofs.Common.{below_more}
use Rattle.macho_object.proofs.outline.Outline.check_relocations_of.Goals as goal

pub loop-index-preserved : goal.loop-index-preserved
loop-index-preserved c = below_more _ _ c.loop-index.invariant c.in_ok-check_relocation.ensures.ok
