use Rattle.macho_linker.specs.steps.Paths.{IsBehindLast}
use Rattle.macho_linker.proofs.paths.behind_last.Given as goal

abbrev pub invariant-loop-place : goal.invariant-loop-place
invariant-loop-place l = IsBehindLast l.path l.place l.slash l.end
