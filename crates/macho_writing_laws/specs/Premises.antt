-- What laws on placed links start from.
use Rattle.macho_model.specs.declared.placed.Counts.{Counts}
use Rattle.macho_model.specs.Links.{Link}
use Rattle.macho_model.specs.Placement.{Placed}
use Rattle.macho_promise.specs.Sound.{IsSound}
use Rattle.macho_layout_laws.specs.Laws.{IsWhollyPlaced, NonePasses}
use Rattle.macho_model.specs.Grammar.{ObjectsAreRead}
use Rattle.macho_image_laws.specs.Leads.{PersonalitiesFit}

-- A sound link, whose objects are objects, is placed whole, and none of the numbers that a layout looks at is too great.
pub record IsSoundlyPlaced (l : Link) (counts : Counts) (p : Placed) : Type 0 where
  pub objects : ObjectsAreRead l
  pub sound : IsSound l
  pub personalities : PersonalitiesFit l
  pub placed : IsWhollyPlaced l counts p
  pub within : NonePasses l counts p
