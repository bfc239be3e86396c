-- A section of zeros is done as it is, another once its range is filled.
use Rattle.std.proofs.Common.{ap, sym, true, false, ◌∙◌}
use Rattle.std.specs.Prelude.{option_copied}
use Rattle.macho_layout.specs.Placements.{placed_of}
use Rattle.macho_records.specs.Sections.{is_zerofill}
use Rattle.macho_contents.proofs.Viewing.{header_is, header_here, one_to_fill, zeros_done, filled_done, on_ok_all}
use Rattle.macho_contents.proofs.sections.fill_one.Goals as goal

pub returns-then-is_no_bits-clause-done : goal.returns-then-is_no_bits-clause-done
returns-then-is_no_bits-clause-done g c l all here =
    let seen = sym c.view_of.ensures ∙ ap option_copied c.in-Some.is in
    let header = header_is c.in-Some.file.now c.args.place.section c.section.result c.in-Some-section.header c.section.ensures
    c.in-Some-section.is in
    let zeros = ap is_zerofill (sym header) ∙ sym c.is_no_bits.ensures ∙ c.if-is_no_bits.true in
    zeros_done l (placed_of c.args.placement.now) c.args.views.now (g.P.Places.look c.args.places.now) c.args.place c.args.out.now
    c.args.run.now.items all here
    (header_here l (placed_of c.args.placement.now) c.args.views.now
    (g.P.Places.look c.args.places.now) c.args.place c.in-Some.file.now true all
    seen zeros)

pub returns-clause-done : goal.returns-clause-done
returns-clause-done g c l all here =
    let p = placed_of c.args.placement.now in
    let look = g.P.Places.look c.args.places.now in
    let seen = sym c.view_of.ensures ∙ ap option_copied c.in-Some.is in
    let header = header_is c.in-Some.file.now c.args.place.section c.section.result c.in-Some-section.header c.section.ensures
    c.in-Some-section.is in
    let filled = ap is_zerofill (sym header) ∙ sym c.is_no_bits.ensures ∙ c.if-is_no_bits.false in
    let to_fill = one_to_fill l p c.args.views.now look c.args.place c.in-Some.file.now all here seen in
    on_ok_all c.fill_range.result
    (filled_done l p c.args.place c.args.out.now c.fill_range.new.out c.args.run.now.items c.fill_range.new.run.items
    (header_here l p c.args.views.now look c.args.place c.in-Some.file.now false all seen filled))
    (c.fill_range.ensures.done l to_fill) (c.fill_range.ensures.asked l to_fill) (c.fill_range.ensures.only l to_fill)

pub returns-clause-why : goal.returns-clause-why
returns-clause-why g c l all here =
    let seen = sym c.view_of.ensures ∙ ap option_copied c.in-Some.is in
    c.fill_range.ensures.why l
    (one_to_fill l (placed_of c.args.placement.now) c.args.views.now
    (g.P.Places.look c.args.places.now) c.args.place c.in-Some.file.now all here seen)
