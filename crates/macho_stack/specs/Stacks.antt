-- Members in their cells.
use Rattle.std.specs.Prelude.{◌≡◌, ℕ, ◌+◌, ◌^◌, ◌≤◌, ◌<◌, ◌==◌, Bool, List, length, map, filter, fold, get_or, AllPairs, sum_by, max, bit_or}
use Rattle.macho_bytes.specs.Numbers.{rounded_up}
use Rattle.macho_stack.specs.declared.members.Member.{Member}
use Rattle.macho_stack.specs.declared.members.PlacedMember.{PlacedMember}
use Rattle.macho_stack.specs.declared.members.Extent.{Extent}
use Rattle.macho_stack.specs.Blocks.{Block, IsStack}
use Rattle.macho_stack.specs.Costs.{cost_of, extent_cost}

-- a cell without members has the flags that it begins with
abbrev pub empty_extent : ℕ → Extent
empty_extent flags = record { size = 0; exponent = 0; flags = flags }

abbrev pub begun : List ℕ → List Extent
begun flags = map empty_extent flags

-- a cell with one member more
abbrev pub joined : Extent → Member → Extent
joined e m = record {
  size = rounded_up (2 ^ m.exponent) e.size + m.size;
  exponent = max e.exponent m.exponent;
  flags = bit_or e.flags m.flags;
}

-- what a cell has in all
abbrev pub extent_at : List Extent → ℕ → Extent
extent_at extents c = get_or extents c (empty_extent 0)

-- the members of a cell, as they were given
abbrev pub is_in_cell : ℕ → PlacedMember → Bool
is_in_cell c q = q.member.cell == c

abbrev pub members_in : ℕ → List PlacedMember → List PlacedMember
members_in c placed = filter (is_in_cell c) placed

-- a member as a block, from the start of its cell
abbrev pub block_of : PlacedMember → Block
block_of q = record { start = q.offset; size = q.member.size; exponent = q.member.exponent }

-- of two members of one cell the later one stands behind
abbrev pub StandBehind : PlacedMember → PlacedMember → Type 0
StandBehind a b = a.member.cell ≡ b.member.cell → a.offset + a.member.size ≤ b.offset

-- Members are stacked in their cells.
pub record AreStacked (flags : List ℕ) (members : List Member) (extents : List Extent) (placed : List PlacedMember) : Type 0 where
  -- each cell has an extent, and each member a place
  pub many : length extents ≡ length flags
  pub same : map (λ q. q.member) placed ≡ members
  -- the members of a cell stand one behind the other
  pub stacks : (c : ℕ) → c < length flags → IsStack 0 (map block_of (members_in c placed)) (extent_at extents c).size
  pub order : AllPairs StandBehind placed
  -- a cell has the greatest alignment, and all flags
  pub exponents : (c : ℕ) → c < length flags
      → (extent_at extents c).exponent ≡ fold max 0 (map (λ q. q.member.exponent) (members_in c placed))
  pub flags_of : (c : ℕ) → c < length flags
      → (extent_at extents c).flags ≡ fold bit_or (get_or flags c 0) (map (λ q. q.member.flags) (members_in c placed))
  -- all cells cost at most what their members cost
  pub within : sum_by extent_cost extents ≤ sum_by cost_of members
