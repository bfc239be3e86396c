-- What holds before a common: those before it have no byte but 0.
use Rattle.std.proofs.Common.{◌≡◌, ℕ, ◌<◌, get_or}
use Rattle.macho_model.specs.declared.placed.PlacedCommon.{PlacedCommon}
use Rattle.macho_model.specs.Links.{Link}
use Rattle.macho_image_rules.specs.Commons.{CommonBytesAre, commons_of}
use Rattle.macho_image_rules.proofs.commons.first_wrong_common.Given as goal

abbrev pub invariant-loop-index : goal.invariant-loop-index
invariant-loop-index l =
    (link : Link) → l.sizes ≡ commons_of link → (k : ℕ) (d : PlacedCommon) → k < l.index
    → CommonBytesAre link l.image (get_or l.placement.commons.items k d)
