-- What filling a section rests on: the link is sound, and the section is one of its carried ones, in its place.
use Rattle.std.specs.Prelude.{◌≡◌, ℕ, List, Contains}
use Rattle.macho_model.specs.declared.placed.PlacedSection.{PlacedSection}
use Rattle.macho_model.specs.Links.{Link, object_of, carried_of}
use Rattle.macho_model.specs.Placement.{Placed, id_of}
use Rattle.macho_promise.specs.Sound.{IsSound}
use Rattle.macho_fields.specs.Looks.{Look, Tells, IsFound}

-- A placed section of a sound link is to be filled from the bytes of its object, by these look-ups.
pub record IsToFill (l : Link) (p : Placed) (q : PlacedSection) (look : Look) (bytes : List ℕ) : Type 0 where
  pub sound : IsSound l
  pub found : IsFound l p
  pub tells : Tells l p look
  pub carried : Contains (carried_of l) (id_of q)
  pub here : Contains p.sections q
  pub object : object_of l q.file ≡ bytes
