-- Paths: what holds before path k is that the first k are short.
use Rattle.std.proofs.Common.{take}
use Rattle.std.specs.Prelude.{All}
use Rattle.macho_linkedit.specs.Counting.{IsPath}
use Rattle.macho_sizing.proofs.counting.check_paths.Given as goal

abbrev pub invariant-loop-path : goal.invariant-loop-path
invariant-loop-path l = All IsPath (take l.path-index l.paths)
