-- What is laid out of a link's plan is placed as an image of the link has to be, and a plan is refused only where the link is.
use Rattle.std.specs.Prelude.{◌≡◌, ℕ, ◌-◌, ◌<◌, ◌≤◌, if◌then◌else◌, All, Contains, Some, None, get_or, map, sum_by}
use Rattle.macho_records.specs.Segments.{text_of}
use Rattle.macho_model.specs.declared.placed.Counts.{Counts}
use Rattle.macho_model.specs.declared.placed.PlacedSegment.{PlacedSegment}
use Rattle.macho_model.specs.declared.placed.Range64.{Range64}
use Rattle.macho_model.specs.declared.targets.Limit.TheVariants as limit
use Rattle.macho_model.specs.declared.targets.Target.{Target}
use Rattle.macho_model.specs.Addresses.{common_address, slot_address}
use Rattle.macho_model.specs.Targets.{slot_number}
use Rattle.macho_model.specs.Links.{Link}
use Rattle.macho_model.specs.Segments.{may_hold_pointers}
use Rattle.macho_model.specs.Placement.{Placed, IsPlaced, linkedit_ranges}
use Rattle.macho_model.specs.OutputSections.{output_sections_for}
use Rattle.macho_model.specs.Order.{AreLeast, pages_of}
use Rattle.macho_model.specs.Spans.{StandInOrder}
use Rattle.macho_model.specs.Limits.{PassesLimit, IsTooLarge as ImageIsTooLarge, LIMIT_32}
use Rattle.macho_layout.specs.declared.fault.LayoutFault.{LayoutFault}
use Rattle.macho_layout.specs.declared.fault.LayoutFault.TheVariants.{TooMany, TooLarge, OutOfMemory}
use Rattle.macho_layout.specs.Placements.{placed_of}
use Rattle.macho_layout.specs.Plans.{Planning, IsPlanOf}
use Rattle.macho_layout.specs.Sums.{FitsLimits}
use Rattle.macho_layout.specs.Laid.{IsLaidOut, IsSmall, IsTooLarge, FaultStands}
use Rattle.macho_model.specs.Rooms.{fixup_room}

-- All that is promised of where things are.
pub record IsWhollyPlaced (l : Link) (counts : Counts) (q : Placed) : Type 0 where
  -- each part has its place: THE placement relation
  pub placed : IsPlaced l counts q
  -- what is listed has the stated order
  pub order : StandInOrder l counts q
  -- parts stand in the stated order, each as low as it may
  pub least : AreLeast l counts q
  -- the output sections are the link's, with all that their headers say
  pub sections : q.output_sections ≡ output_sections_for l counts q

-- what is laid out of a link's plan is wholly placed, and so is what a refusal keeps
abbrev pub LaidOutIsPlaced : Type 0
LaidOutIsPlaced =
    (l : Link) (p : Planning) (counts : Counts) (q : Placed)
    → IsPlanOf l p → FitsLimits p counts → IsLaidOut p counts q → IsWhollyPlaced l counts q

abbrev pub KeptIsPlaced : Type 0
KeptIsPlaced = (l : Link) (p : Planning) (counts : Counts) (q : Placed) → IsPlanOf l p → IsTooLarge p counts q → IsWhollyPlaced l counts q

-- a refusal of a layout, as one of the link
abbrev pub LinkPasses : Link → Counts → LayoutFault → Type 0
LinkPasses l counts (TooMany what number) = PassesLimit l counts what number None
LinkPasses l counts (TooLarge None) = ImageIsTooLarge l counts None
LinkPasses l counts (TooLarge (Some placement)) = ImageIsTooLarge l counts (Some (placed_of placement))
LinkPasses l counts OutOfMemory = Unit {0}

-- a plan is refused only where the link passes a limit
abbrev pub RefusalsAreLinks : Type 0
RefusalsAreLinks = (l : Link) (p : Planning) (counts : Counts) (f : LayoutFault) → IsPlanOf l p → FaultStands p counts f
    → LinkPasses l counts f

-- No limit that a layout looks at is passed.
pub record NonePasses (l : Link) (counts : Counts) (q : Placed) : Type 0 where
  pub segments : (number : ℕ) → PassesLimit l counts limit.Segments number None → ⊥
  pub sections : (number : ℕ) → PassesLimit l counts limit.Sections number None → ⊥
  pub sum : ImageIsTooLarge l counts None → ⊥
  -- file offsets and sizes, also those of the tables
  pub files : (s : PlacedSegment) → Contains q.segments s → (s.file_offset < LIMIT_32) × (s.file_size < LIMIT_32)
  pub ranges : (r : Range64) → Contains (linkedit_ranges q) r → r.end < LIMIT_32

-- a placement that is answered passes none
abbrev pub AnsweredPassNone : Type 0
AnsweredPassNone =
    (l : Link) (p : Planning) (counts : Counts) (q : Placed) → IsPlanOf l p → FitsLimits p counts → IsLaidOut p counts q → IsSmall q
    → NonePasses l counts q

-- The fixup table has room for the page starts of each segment that the loader may write pointers in, up to the end of its file bytes.
abbrev pub PagesFit : Type 0
PagesFit =
    (l : Link) (p : Planning) (counts : Counts) (q : Placed) (used : PlacedSegment → ℕ) → IsPlanOf l p → FitsLimits p counts
    → IsLaidOut p counts q
    → All (λ s. used s ≤ (if may_hold_pointers (text_of s.name) then pages_of s else 0)) q.segments
    → fixup_room counts (sum_by used q.segments) ≤ q.linkedit.fixups.end - q.linkedit.fixups.start

-- a common's address stands at its number, and a slot's at the number of its target
abbrev pub CommonsByNumber : Type 0
CommonsByNumber =
    (l : Link) (counts : Counts) (q : Placed) → IsWhollyPlaced l counts q → (id : ℕ)
    → common_address q id ≡ get_or (map (λ c. c.address) q.commons) id 0

abbrev pub SlotsByNumber : Type 0
SlotsByNumber =
    (l : Link) (counts : Counts) (q : Placed) → IsWhollyPlaced l counts q → (t : Target)
    → slot_address q t ≡ get_or (map (λ s. s.address) q.slots) (slot_number l t) 0
