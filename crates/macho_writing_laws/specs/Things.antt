-- What the placement of a link has for each thing of the link.
use Rattle.macho_model.specs.declared.placed.Counts.{Counts}
use Rattle.macho_model.specs.Links.{Link}
use Rattle.macho_model.specs.Placement.{Placed, IsPlaced}
use Rattle.macho_promise.specs.Promise.{IsLaidOut}
use Rattle.macho_layout_laws.specs.Laws.{IsWhollyPlaced}
use Rattle.macho_placed_laws.specs.Targets.{ListsAll}
use Rattle.macho_model.specs.Grammar.{ObjectsAreRead}
use Rattle.macho_fields.specs.Looks.{IsFound}
use Rattle.macho_image_laws.specs.Laws.{IsPlacedLink}
use Rattle.macho_writing_laws.specs.Premises.{IsSoundlyPlaced}

-- whatever relocations lead to has its place, its slot and its stub
abbrev pub ThingsAreFound : Type 0
ThingsAreFound = (l : Link) (counts : Counts) (p : Placed) → ObjectsAreRead l → IsPlaced l counts p → IsFound l p

-- sections, commons and slots are listed in the order of the link
abbrev pub ThingsAreListed : Type 0
ThingsAreListed = (l : Link) (counts : Counts) (p : Placed) → IsWhollyPlaced l counts p → ListsAll l p

-- what is placed whole is laid out as the promise of an image asks
abbrev pub PlacesAreLaidOut : Type 0
PlacesAreLaidOut = (l : Link) (counts : Counts) (p : Placed) → IsWhollyPlaced l counts p → IsLaidOut l counts p

-- and a sound link that is placed whole is one that composed images start from
abbrev pub LinksArePlaced : Type 0
LinksArePlaced = (l : Link) (counts : Counts) (p : Placed) → IsSoundlyPlaced l counts p → IsPlacedLink l counts p
