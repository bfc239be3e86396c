-- What holds before a section: those before it have no wrong byte.
use Rattle.std.proofs.Common.{◌≡◌, ℕ, ◌<◌, get_or}
use Rattle.macho_model.specs.declared.placed.PlacedSection.{PlacedSection}
use Rattle.macho_model.specs.Links.{Link}
use Rattle.macho_promise.specs.Views.{views_of}
use Rattle.macho_image_rules.specs.Bytes.{SectionBytesAre}
use Rattle.macho_image_rules.proofs.walks.first_wrong_section.Given as goal

abbrev pub invariant-loop-index : goal.invariant-loop-index
invariant-loop-index l =
    (link : Link) → l.views ≡ views_of link → (k : ℕ) (d : PlacedSection) → k < l.index
    → SectionBytesAre link l.image (get_or l.placement.sections.items k d)
