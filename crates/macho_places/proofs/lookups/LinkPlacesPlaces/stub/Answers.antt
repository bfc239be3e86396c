-- The address of a stub: that of its number.
use Rattle.std.proofs.Common.{ap, map, ◌∙◌}
use Rattle.macho_model.specs.declared.targets.Target.TheVariants as target
use Rattle.macho_model.specs.Targets.{same_target}
use Rattle.macho_needs.specs.Tables.{number_of}
use Rattle.macho_places.specs.Places.{Known}
use Rattle.macho_places.specs.Looked.{look_of, numbered}
use Rattle.macho_places.proofs.lookups.LinkPlacesPlaces.stub.Goals as goal

pub returns : goal.returns
unfolding look_of
returns c =
    c.stub_at.ensures
    ∙ ap (λ xs. numbered (map (λ s. s.address) xs) c.stub_number.result) c.deref.ensures.value
    ∙ ap (numbered (map (λ s. s.address) c.self.inside.placement.now.stubs.items)) c.stub_number.ensures
    ∙ ap (λ (k : Known). numbered (map (λ s. s.address) k.placed.stubs) (number_of same_target k.tables.stubs
    (target.Import c.args.import))) c.self.view_is
