use Rattle.std.proofs.Common.{arith}
use Rattle.macho_linkedit.proofs.counting.commands_size.Goals as goal

pub overflow_add-result-2 : goal.overflow_add-result-2
overflow_add-result-2 c = omega
    (arith, c.own_size.ensures.small, c.versions_size.ensures.small, c.paths_size.ensures.small, c.paths_size-2.ensures.small)

pub overflow_add-result-4 : goal.overflow_add-result-4
overflow_add-result-4 c = omega
    (arith, c.own_size.ensures.small, c.versions_size.ensures.small, c.paths_size.ensures.small, c.paths_size-2.ensures.small)
