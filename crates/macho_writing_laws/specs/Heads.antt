-- The head of an image has room in front of its parts, and its numbers fit 32 bits.
use Rattle.std.specs.Prelude.{ℕ, ◌^◌, ◌<◌, ◌≤◌, List, All}
use Rattle.macho_model.specs.declared.placed.Counts.{Counts}
use Rattle.macho_model.specs.declared.placed.Range64.{Range64}
use Rattle.macho_model.specs.Links.{Link}
use Rattle.macho_model.specs.Placement.{Placed, head_size, linkedit_ranges}
use Rattle.macho_promise.specs.Sizes.{AreCounts}
use Rattle.macho_layout_laws.specs.Laws.{IsWhollyPlaced, NonePasses}
use Rattle.macho_head.specs.declared.commands.HeadParts.{HeadParts}
use Rattle.macho_head.specs.Splits.{HeadersAreSplit}
use Rattle.macho_head.specs.Heads.{AreHeadParts, TablesAreSmall, head_bytes}

-- the section headers stand segment by segment
abbrev pub HeadersStand : Type 0
HeadersStand = (l : Link) (counts : Counts) (p : Placed) → IsWhollyPlaced l counts p → HeadersAreSplit p

-- the tables end in the file, and the file is short
abbrev pub TablesEnd : Type 0
TablesEnd =
    (l : Link) (counts : Counts) (p : Placed) → IsWhollyPlaced l counts p
    → All (λ (r : Range64). (r.start ≤ r.end) × (r.end ≤ p.linkedit.signature.end)) (linkedit_ranges p)

abbrev pub TablesStandLow : Type 0
TablesStandLow = (l : Link) (counts : Counts) (p : Placed) → IsWhollyPlaced l counts p → NonePasses l counts p → TablesAreSmall p.linkedit

-- A head of so many bytes ends where the parts begin, which is in the file.
pub record HeadFits (counts : Counts) (p : Placed) (bytes : ℕ) : Type 0 where
  pub room : bytes ≤ head_size counts p
  pub inside : head_size counts p ≤ p.linkedit.signature.end
  pub small : p.linkedit.signature.end < 2 ^ 32

abbrev pub HeadsHaveRoom : Type 0
HeadsHaveRoom =
    (l : Link) (counts : Counts) (uuid : List ℕ) (p : Placed) (h : HeadParts) → IsWhollyPlaced l counts p → NonePasses l counts p
    → AreCounts l counts → AreHeadParts l counts uuid p h → HeadFits counts p (head_bytes p h)
