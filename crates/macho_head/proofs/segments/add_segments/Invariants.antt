use Rattle.std.proofs.Common.{map}
use Rattle.macho_commands.specs.Commands.{said_by}
use Rattle.macho_layout.specs.Placements.{placed_of}
use Rattle.macho_head.proofs.Split.{AddedSegments}
use Rattle.macho_head.proofs.segments.add_segments.Given as goal

abbrev pub invariant-loop-segment : goal.invariant-loop-segment
invariant-loop-segment l =
    AddedSegments (placed_of l.placement) (map said_by l.initial.commands.items) (map said_by l.commands.items) l.at l.segment-index
