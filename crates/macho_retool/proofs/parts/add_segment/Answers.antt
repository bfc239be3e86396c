-- The segment, and behind it its sections.
use Rattle.macho_retool.proofs.Rooms.{sections_join}
use Rattle.macho_retool.proofs.parts.add_segment.Goals as goal

pub returns : goal.returns
returns c =
    sections_join c.args.bytes.now c.args.place c.segment_there-count.result c.args.parts.now.items c.add_own.new.parts.items
    c.add_sections.new.parts.items c.segment_there-count.ensures c.in_ok-add_own.ensures c.in_ok-add_sections.ensures
