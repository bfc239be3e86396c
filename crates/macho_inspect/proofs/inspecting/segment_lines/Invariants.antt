-- The segments so far have their lines.
use Rattle.std.proofs.Common.{◌≡◌, map, take}
use Rattle.macho_inspect.specs.Reports.{segment_line}
use Rattle.macho_inspect.proofs.inspecting.segment_lines.Given as goal

abbrev pub invariant-loop-segment : goal.invariant-loop-segment
invariant-loop-segment l = l.lines.items ≡ map segment_line (take l.segment-index l.segment-items)
