-- The segment is read at the command with its number.
use Rattle.std.proofs.Common.{◌≡◌, None, refl, subst, ◌∙◌}
use Rattle.std.specs.List.{slice_get}
use Rattle.macho_model.specs.Images.{segments_of}
use Rattle.macho_loader.proofs.Segments.{segment_found, segment_missing}
use Rattle.macho_loader.proofs.loaded.Loaded.segment.Goals as goal

pub returns-in-Some : goal.returns-in-Some
returns-in-Some c =
    subst (λ b. c.read.result ≡ slice_get (segments_of b) c.args.index) c.self.view_is
    (c.read.ensures ∙ segment_found c.self.inside.bytes.now c.args.index c.in-Some.place c.self.invariant.0
    (c.in-Some.ensures.found c.in-Some.place refl))

pub returns-in-None : goal.returns-in-None
returns-in-None c =
    subst (λ b. None ≡ slice_get (segments_of b) c.args.index) c.self.view_is
    (segment_missing c.self.inside.bytes.now c.args.index (c.in-None.ensures.only refl))
