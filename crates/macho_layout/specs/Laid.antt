-- What a plan's placement is, step by step.
use Rattle.std.specs.Prelude.{◌≡◌, ℕ, ◌+◌, ◌-◌, ◌*◌, ◌≤◌, ◌<◌, ◌^◌, List, [], ◌∷◌, ◌++◌, map, length, Some, None, Bool, true, false, nat_lt, ◌&&◌, All}
use Rattle.std.specs.List.{list_all}
use Rattle.macho_layout.specs.Placements.{placed_of}
use Rattle.macho_model.specs.declared.placed.Counts.{Counts}
use Rattle.macho_model.specs.declared.targets.Limit.TheVariants as limit
use Rattle.macho_layout.specs.declared.fault.LayoutFault.{LayoutFault}
use Rattle.macho_layout.specs.declared.fault.LayoutFault.TheVariants.{TooMany, TooLarge, OutOfMemory}
use Rattle.macho_layout.specs.Plans.{Planning, MayStand}
use Rattle.macho_bytes.specs.Numbers.{rounded_up}
use Rattle.macho_model.specs.declared.placed.Linkedit.{Linkedit}
use Rattle.macho_model.specs.declared.placed.PlacedSegment.{PlacedSegment}
use Rattle.macho_model.specs.Placement.{Placed}
use Rattle.macho_model.specs.Segments.{PAGEZERO, LINKEDIT, PAGEZERO_SIZE, SEGMENT_PAGE, list_if, one_if}
use Rattle.macho_stack.specs.declared.members.Extent.{Extent}
use Rattle.macho_stack.specs.declared.members.PlacedMember.{PlacedMember}
use Rattle.macho_stack.specs.declared.place.PlacedCell.{PlacedCell}
use Rattle.macho_stack.specs.Stacks.{AreStacked}
use Rattle.macho_stack.specs.Ranks.{HasStarts}
use Rattle.macho_layout.specs.declared.spec.Planned.{Planned}
use Rattle.macho_layout.specs.Keys.{padded, specs_of}
use Rattle.macho_layout.specs.Names.{segment_count, mapped_names}
use Rattle.macho_layout.specs.Members.{members_of, first_flags}
use Rattle.macho_layout.specs.Cells.{cells_of}
use Rattle.macho_stack.specs.Rows.{AreRows}
use Rattle.macho_layout.specs.Headers.{header_of}
use Rattle.macho_stack.specs.Tables.{tables_at}
use Rattle.macho_layout.specs.Places.{number_at, range_at, template_range, row_pages, placed_sections, placed_commons, placed_slots, placed_stubs}
use Rattle.macho_layout.specs.Sums.{output_count, written_sum, head_size, base_of, FitsLimits}

-- why a plan has no placement, before any address is known
abbrev pub FaultIs : Planning → Counts → LayoutFault → Type 0
FaultIs p counts (TooMany limit.Segments number) = (number ≡ segment_count p) × (6 < number)
FaultIs p counts (TooMany limit.Sections number) = (number ≡ output_count p counts) × (255 < number)
FaultIs p counts (TooMany what number) = ⊥
FaultIs p counts (TooLarge None) = 2 ^ 64 ≤ written_sum p counts + 2 ^ 32
FaultIs p counts (TooLarge (Some placement)) = ⊥
FaultIs p counts OutOfMemory = ⊥

-- the segment that keeps the first 4 GiB of an executable free
abbrev pub zero_page : PlacedSegment
zero_page = record { name = padded PAGEZERO; address = 0; size = PAGEZERO_SIZE; file_offset = 0; file_size = 0 }

-- the segment of the tables
abbrev pub tables_segment : ℕ → ℕ → Linkedit → PlacedSegment
tables_segment address offset t = record {
  name = padded LINKEDIT;
  address = address;
  size = rounded_up SEGMENT_PAGE (t.signature.end - offset);
  file_offset = offset;
  file_size = t.signature.end - offset;
}

-- where what the linker makes begins, by its number among that
abbrev pub made_start : List Extent → List ℕ → ℕ → ℕ
made_start extents starts made = number_at starts (length extents + made)

-- A placement is told by its members, its rows and the starts of its output sections.
pub record IsFrom (p : Planning) (counts : Counts) (planned : List Planned) (extents : List Extent) (members : List PlacedMember)
    (rows : List PlacedSegment)
    (cells : List PlacedCell) (starts : List ℕ) (address offset : ℕ) (q : Placed) : Type 0 where
  pub base : q.base ≡ base_of p
  pub segments : q.segments ≡ list_if p.executable (zero_page ∷ []) ++ rows
      ++ tables_segment address offset (tables_at counts offset (row_pages rows)) ∷ []
  pub sections : q.sections ≡ placed_sections (one_if p.executable) (mapped_names p) members starts planned
  pub commons : q.commons ≡ placed_commons (length p.sections) members starts p.commons
  pub slots : q.slots ≡ placed_slots (made_start extents starts 3) p.slots
  pub stubs : q.stubs ≡ placed_stubs (made_start extents starts 2) p.stubs
  pub output_sections : q.output_sections ≡ map (header_of p extents rows) cells
  pub init_offsets : q.init_offsets ≡ range_at (made_start extents starts 0) (4 * counts.initializers)
  pub unwind : q.unwind ≡ range_at (made_start extents starts 1) counts.unwind
  pub template : q.template ≡ template_range cells
  pub linkedit : q.linkedit ≡ tables_at counts offset (row_pages rows)

-- A placement is made of the plan's members in their output sections, of rows of these, and of the tables behind them.
pub record IsLaidOut (p : Planning) (counts : Counts) (q : Placed) : Type 0 where
  pub planned : List Planned
  pub extents : List Extent
  pub members : List PlacedMember
  pub segments : List PlacedSegment
  pub cells : List PlacedCell
  pub starts : List ℕ
  pub address : ℕ
  pub offset : ℕ
  pub planned_are : specs_of planned ≡ p.sections
  pub stacked : AreStacked (first_flags p) (members_of p) extents members
  pub rows : AreRows (mapped_names p) (cells_of p counts (mapped_names p) extents) (base_of p) (head_size p counts)
      (length (mapped_names p)) segments cells address offset
  pub have : HasStarts (length extents + 4) cells starts
  pub from_them : IsFrom p counts planned extents members segments cells starts address offset q
  -- each section's segment is one that it may stand in
  pub places : All MayStand p.sections

-- file offsets and sizes are told in 32 bits; the tables end with the signature
abbrev pub is_small_segment : PlacedSegment → Bool
is_small_segment s = nat_lt s.file_offset (2 ^ 32) && nat_lt s.file_size (2 ^ 32)

abbrev pub is_small_tables : Linkedit → Bool
is_small_tables t = nat_lt t.signature.end (2 ^ 32)

abbrev pub is_small : Placed → Bool
is_small q = list_all is_small_segment q.segments && is_small_tables q.linkedit

pub record IsSmall (q : Placed) : Type 0 where
  pub small : is_small q ≡ true

-- what is laid out, and doesn't fit 32 bits
pub record IsTooLarge (p : Planning) (counts : Counts) (q : Placed) : Type 0 where
  pub laid : IsLaidOut p counts q
  pub fits : FitsLimits p counts
  pub large : is_small q ≡ false

-- why a plan has no placement
abbrev pub FaultStands : Planning → Counts → LayoutFault → Type 0
FaultStands p counts (TooLarge (Some placement)) = IsTooLarge p counts (placed_of placement)
FaultStands p counts OutOfMemory = Unit {0}
FaultStands p counts fault = FaultIs p counts fault
