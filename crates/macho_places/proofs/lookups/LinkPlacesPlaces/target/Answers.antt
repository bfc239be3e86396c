-- What a symbol leads to: the rows say it, as they are those of a link.
use Rattle.std.proofs.Common.{ap, sym, subst, ◌∙◌}
use Rattle.macho_symbols.specs.Kept.{IsResolved}
use Rattle.macho_symbols.proofs.Targeted.{target_here}
use Rattle.macho_places.specs.Places.{Known}
use Rattle.macho_places.specs.Looked.{look_of}
use Rattle.macho_places.proofs.lookups.LinkPlacesPlaces.target.Goals as goal

pub returns : goal.returns
unfolding look_of
returns c =
    let rows = ap (λ (k : Known). k.rows) c.self.view_is in
    c.target.ensures c.requires.link c.args.self.now.rows.noted
    (subst (IsResolved c.requires.link c.args.self.now.rows.noted) (sym rows) c.requires.resolved)
    ∙ sym (target_here c.requires.link c.args.self.now.rows.noted c.args.self.now.rows c.args.file c.args.symbol c.requires.resolved
    c.requires.there)
