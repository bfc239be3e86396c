-- The next part counts, or it doesn't.
use Rattle.std.proofs.Common.{◌∙◌, nat_lt, nat_le, ◌&&◌}
use Rattle.macho_retool.specs.declared.parts.FilePart.{FilePart}
use Rattle.macho_retool.proofs.Lists.{least_goes_on}
use Rattle.macho_retool.proofs.room.room_before.Goals as goal

pub loop-part-preserved : goal.loop-part-preserved
loop-part-preserved c =
    c.room_with-room.ensures
    ∙ least_goes_on (λ (p : FilePart). nat_lt 0 p.size && nat_le c.args.end p.at) (λ (p : FilePart). p.at) c.args.parts.now
    c.loop-part.part-index _ c.args.text_end c.loop-part.room c.loop-part-test.true c.loop-part.invariant
