-- Whether a section lies in the template: its header says it, where its object is viewed.
use Rattle.std.proofs.Common.{ap, sym, get_or, None, ◌∙◌}
use Rattle.std.specs.Prelude.{option_copied}
use Rattle.macho_places.specs.Places.{Known}
use Rattle.macho_places.specs.Looked.{look_of, template_in}
use Rattle.macho_places.proofs.lookups.LinkPlacesPlaces.is_in_template.Goals as goal

pub returns-in-Some : goal.returns-in-Some
unfolding look_of
returns-in-Some c =
    c.template_in.ensures
    ∙ ap (λ v. template_in (option_copied v) c.args.section) (sym c.in-Some.is)
    ∙ ap (λ v. template_in v c.args.section) c.view_of.ensures
    ∙ ap (λ (k : Known). template_in (get_or k.views c.args.file None) c.args.section) c.self.view_is

pub returns-in-None : goal.returns-in-None
unfolding look_of
returns-in-None c =
    ap (λ v. template_in (option_copied v) c.args.section) (sym c.in-None.is)
    ∙ ap (λ v. template_in v c.args.section) c.view_of.ensures
    ∙ ap (λ (k : Known). template_in (get_or k.views c.args.file None) c.args.section) c.self.view_is
