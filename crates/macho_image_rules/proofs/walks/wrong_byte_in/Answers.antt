-- The view that is there shows the bytes of the link's object.
use Rattle.std.proofs.Common.{sym, ap, ◌∙◌}
use Rattle.std.specs.Prelude.{option_copied}
use Rattle.macho_contents.proofs.Viewing.{view_is}
use Rattle.macho_image_rules.proofs.walks.wrong_byte_in.Goals as goal

pub returns-clause-found : goal.returns-clause-found
returns-clause-found c = λ l same.
    c.first_wrong_byte.ensures.found l
    (view_is l c.args.views.now c.args.place.file c.in-Some.file.now same (sym c.view_of.ensures ∙ ap option_copied c.in-Some.is))

pub returns-clause-why : goal.returns-clause-why
returns-clause-why c = λ l same.
    c.first_wrong_byte.ensures.why l
    (view_is l c.args.views.now c.args.place.file c.in-Some.file.now same (sym c.view_of.ensures ∙ ap option_copied c.in-Some.is))
