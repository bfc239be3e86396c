use Rattle.macho_linkedit.proofs.SortedRun.{sorted_is_run}
use Rattle.macho_linkedit.proofs.laws.sorted_is_run.Goals as goal

pub returns : goal.returns
returns c = sorted_is_run
