use Rattle.macho_fixups.proofs.SegmentWrites.{SegmentsSoFar}
use Rattle.macho_fixups.proofs.table.write_segments.Given as goal

-- the segments so far are told of
abbrev pub invariant-loop-segment : goal.invariant-loop-segment
invariant-loop-segment l = SegmentsSoFar l.base l.at l.fixups l.segments l.slot l.place l.next l.segment-index l.initial.out l.out
