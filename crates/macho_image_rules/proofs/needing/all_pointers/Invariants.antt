-- The pointers of the sections so far were told.
use Rattle.std.proofs.Common.{◌≡◌, take, flat_map}
use Rattle.macho_model.specs.Links.{Link}
use Rattle.macho_model.specs.Placement.{Placed}
use Rattle.macho_fields.specs.Pointers.{pointers_in}
use Rattle.macho_image_rules.specs.Viewed.{IsViewed}
use Rattle.macho_image_rules.proofs.needing.all_pointers.Given as goal

abbrev pub invariant-loop-index : goal.invariant-loop-index
invariant-loop-index g l =
    (link : Link) (p : Placed) → IsViewed link p l.views (g.P.Places.look l.places) → l.sections ≡ p.sections
    → l.run.items ≡ flat_map (pointers_in link) (take l.index l.sections)
