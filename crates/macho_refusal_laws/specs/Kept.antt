-- When a refusal that keeps a placement stands.
use Rattle.std.specs.Prelude.{◌≡◌, None, Some}
use Rattle.macho_model.specs.declared.placed.Counts.{Counts}
use Rattle.macho_model.specs.Links.{Link}
use Rattle.macho_model.specs.Placement.{Placed}
use Rattle.macho_model.specs.Faults.{LinkFault, FaultStands, kept_placement}
use Rattle.macho_promise.specs.Sizes.{AreCounts}
use Rattle.macho_promise.specs.Promise.{IsKept}
use Rattle.macho_layout_laws.specs.Laws.{IsWhollyPlaced, NonePasses}
use Rattle.macho_answer.specs.Standing.{IsStanding}

-- a placement whose file sizes fit 32 bits has the sizes of its link, none of which is cut: a refusal may keep it
abbrev pub PlacedIsKept : Type 0
PlacedIsKept =
    (l : Link) (counts : Counts) (p : Placed) → IsWhollyPlaced l counts p → NonePasses l counts p → AreCounts l counts → IsKept l p

-- what is so of a link by its sizes, of itself or of such a placement, is a refusal that stands, whatever sizes are asked of
abbrev pub EarlyIsStanding : Type 0
EarlyIsStanding =
    (l : Link) (counts : Counts) (f : LinkFault) → AreCounts l counts → kept_placement f ≡ None → FaultStands l counts f
    → (others : Counts) → AreCounts l others → IsStanding l others f

abbrev pub LateIsStanding : Type 0
LateIsStanding =
    (l : Link) (counts : Counts) (p : Placed) (f : LinkFault) → IsWhollyPlaced l counts p → NonePasses l counts p → AreCounts l counts
    → kept_placement f ≡ Some p → FaultStands l counts f
    → (others : Counts) → AreCounts l others → IsStanding l others f
