-- The room of unwind information, and a placement with it.
use Rattle.std.specs.Prelude.{◌≡◌, ℕ, ◌^◌, ◌<◌, ◌≤◌, ◌⊎◌, ◌&&◌, nat_lt, min, true, if◌then◌else◌, List, Option, Some, None, Contains, All}
use Rattle.macho_records.specs.Segments.{text_of}
use Rattle.macho_model.specs.declared.placed.Counts.{Counts}
use Rattle.macho_model.specs.declared.placed.PlacedSegment.{PlacedSegment}
use Rattle.macho_model.specs.declared.targets.Limit.TheVariants as limit
use Rattle.macho_model.specs.Links.{Link}
use Rattle.macho_model.specs.Limits.{PassesLimit}
use Rattle.macho_model.specs.Order.{pages_of}
use Rattle.macho_model.specs.Placement.{Placed}
use Rattle.macho_model.specs.Segments.{may_hold_pointers}
use Rattle.macho_promise.specs.Sizes.{text_span, unwind_size}
use Rattle.macho_layout_laws.specs.Laws.{IsWhollyPlaced, NonePasses}
use Rattle.macho_sizing.specs.Sized.{IsPlannedBy}

-- the room, none where it or the span of functions is 2 ^ 64 or more
abbrev pub TellsRoom : Link → Option ℕ → Type 0
TellsRoom l (Some room) = room ≡ unwind_size l
TellsRoom l None = (2 ^ 64 ≤ text_span l) ⊎ (2 ^ 64 ≤ unwind_size l)

-- the sizes that a placement kept by a refusal has
abbrev pub kept_counts : Counts → Counts
kept_counts counts = record counts { unwind = min counts.unwind (2 ^ 32) }

-- A placement is laid out of a plan of a link.
pub record IsLaid (l : Link) (counts : Counts) (p : Placed) : Type 0 where
  pub planned : IsPlannedBy l counts p
  pub placed : IsWhollyPlaced l counts p
  pub passes : NonePasses l counts p

-- A placement is answered for a link.
pub record IsAnswered (l : Link) (counts : Counts) (p : Placed) : Type 0 where
  pub laid : IsLaid l counts p
  pub pages : (number : ℕ) → PassesLimit l counts limit.Pages number (Some p) → ⊥

-- the pages of a segment that the loader writes pointers in, where they are too many
abbrev pub passed_pages : PlacedSegment → Option ℕ
passed_pages s = if may_hold_pointers (text_of s.name) && nat_lt 65535 (pages_of s) then Some (pages_of s) else None

-- some segment, and none
abbrev pub HasMany : List PlacedSegment → ℕ → Type 0
HasMany segments number =
    (s : PlacedSegment) × Contains segments s × (may_hold_pointers (text_of s.name) ≡ true) × (number ≡ pages_of s) ×
    (65535 < number)

abbrev pub HasFew : List PlacedSegment → Type 0
HasFew segments = All (λ s. passed_pages s ≡ None) segments
