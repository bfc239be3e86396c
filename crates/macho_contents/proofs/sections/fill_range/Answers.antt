-- What is filled in the range is a part that was put there.
use Rattle.std.proofs.Common.{ap, length}
use Rattle.macho_layout.specs.Placements.{placed_of}
use Rattle.macho_contents.proofs.Viewing.{header_is}
use Rattle.macho_contents.proofs.Ranges.{range_put, range_ends}
use Rattle.macho_contents.proofs.sections.fill_range.Goals as goal
use Rattle.macho_bytes.proofs.Comparing.{on_ok_one}

pub returns-clause-done : goal.returns-clause-done
returns-clause-done g c l to_fill =
    let size = ap (λ h. h.size) (header_is c.args.file.now c.args.place.section c.section.result c.in-Some.header c.section.ensures
    c.in-Some.is) in
    let ends = range_ends c.place_in_file-at.result c.in-Some.header.size _ _ (length c.args.out.now) c.place_in_file-at.ensures.empty
    c.place_in_file-at.ensures.some size c.requires.room.inside in
    on_ok_one c.fill_section.result
    (range_put l (placed_of c.args.placement.now) c.args.place c.args.file.now.bytes c.place_in_file-at.result c.in-Some.header.size
    c.args.out.now c.fill_section.new.out to_fill.object size c.place_in_file-at.ensures.some ends)
    (c.fill_section.ensures.done l (placed_of c.args.placement.now) to_fill)
