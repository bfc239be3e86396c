use Rattle.macho_symbols.proofs.Leading.{common_ids}
use Rattle.macho_symbols.proofs.solved.Solved.target.Goals as goal

pub own_target-requires-clause-commons : goal.own_target-requires-clause-commons
own_target-requires-clause-commons c = rw (c.deref-else-note_in-2.ensures.value, c.deref-else-note_in.ensures.value)
    (common_ids _ c.requires.solved)
