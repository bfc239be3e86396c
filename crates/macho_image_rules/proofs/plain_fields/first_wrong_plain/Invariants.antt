-- What holds before a section: the fields of those before it say what they are to.
use Rattle.std.proofs.Common.{ℕ, ◌<◌, get_or}
use Rattle.macho_model.specs.declared.placed.PlacedSection.{PlacedSection}
use Rattle.macho_model.specs.Links.{Link}
use Rattle.macho_layout.specs.Placements.{placed_of}
use Rattle.macho_image_rules.specs.PlainFields.{IsLookedAt, PlainFieldsSay}
use Rattle.macho_image_rules.proofs.plain_fields.first_wrong_plain.Given as goal

abbrev pub invariant-loop-index : goal.invariant-loop-index
invariant-loop-index g l =
    (link : Link) → IsLookedAt link (placed_of l.placement) l.views (g.P.Places.look l.places) → (k : ℕ) (d : PlacedSection) → k < l.index
    → PlainFieldsSay link l.image (placed_of l.placement) (get_or l.placement.sections.items k d)
