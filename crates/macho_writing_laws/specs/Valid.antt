-- Which refusals stand of a placement of a valid link: none.
use Rattle.std.specs.Prelude.{◌≡◌, ℕ, ◌<◌, List, Some, All}
use Rattle.macho_model.specs.declared.placed.Counts.{Counts}
use Rattle.macho_model.specs.Lists.{IsNumber}
use Rattle.macho_model.specs.Links.{Object, Link}
use Rattle.macho_model.specs.Placement.{Placed, IsPlaced}
use Rattle.macho_model.specs.Faults.{LinkFault, FaultStands, kept_placement}
use Rattle.macho_model.specs.Valid.{IsValid}
use Rattle.macho_promise.specs.Promise.{IsLaidOut}
use Rattle.macho_model.specs.Grammar.{ObjectsAreRead}

-- the bytes of a link's objects are bytes: numbers below 256
abbrev pub ObjectsAreBytes : Link → Type 0
ObjectsAreBytes l = (file : ℕ) (b : List ℕ) → IsNumber l.inputs file (Object b) → All (λ x. x < 256) b

-- none that keeps the placement
abbrev pub PlacementIsNotRefused : Type 0
PlacementIsNotRefused =
    (l : Link) (counts : Counts) (p : Placed) (f : LinkFault) → ObjectsAreRead l → ObjectsAreBytes l → IsValid l counts
    → IsPlaced l counts p → IsLaidOut l counts p
    → kept_placement f ≡ Some p → FaultStands l counts f → ⊥
