-- None of the segments so far has the address in its file part.
use Rattle.macho_places.specs.steps.Segments.{HaveNot}
use Rattle.macho_places.proofs.offsets.file_offset.Given as goal

abbrev pub invariant-loop-segment : goal.invariant-loop-segment
invariant-loop-segment l = HaveNot l.address l.segments l.segment-index
