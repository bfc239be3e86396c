use Rattle.std.proofs.Common.{length}
use Rattle.macho_export_lists.specs.steps.Lists.{IsReading}
use Rattle.macho_export_lists.proofs.list.ExportList.add_lines.Given as goal

abbrev pub invariant-loop-end : goal.invariant-loop-end
invariant-loop-end l = IsReading l.fn.self l.self l.fn.text l.left

abbrev pub decreases-loop-end : goal.decreases-loop-end
decreases-loop-end l = length l.left
