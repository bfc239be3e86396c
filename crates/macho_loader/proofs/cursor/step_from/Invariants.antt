-- Of the commands passed none was of the list.
use Rattle.std.proofs.Common.{◌≤◌}
use Rattle.macho_loader.specs.steps.Cursors.{IsAt}
use Rattle.macho_loader.proofs.Cursors.{cursor}
use Rattle.macho_loader.proofs.cursor.step_from.Given as goal

abbrev pub invariant-loop-index : goal.invariant-loop-index
invariant-loop-index l = IsAt l.list l.bytes (cursor l.index l.place l.from.number) × (l.from.index ≤ l.index)
