-- A section that is filled, seen through the view of its object.
use Rattle.std.proofs.Common.{ap, sym, ◌∙◌}
use Rattle.std.specs.Prelude.{option_copied}
use Rattle.macho_contents.proofs.Viewing.{one_to_fill}
use Rattle.macho_contents.proofs.least.least_in.Goals as goal

pub returns : goal.returns
returns g c l p all here told =
    let seen = sym c.view_of.ensures ∙ ap option_copied c.in-Some.is in
    c.section_fault.ensures.why l p
    (one_to_fill l p c.args.views.now (g.P.Places.look c.args.places.now) c.args.place c.in-Some.file.now all here seen) told
