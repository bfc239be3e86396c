-- What a member and a cell cost at most: their bytes, and what their alignment may leave free.
use Rattle.std.specs.Prelude.{ℕ, ◌+◌, ◌*◌, ◌-◌, ◌^◌}
use Rattle.macho_stack.specs.declared.members.Member.{Member}
use Rattle.macho_stack.specs.declared.members.Extent.{Extent}

-- the greatest alignment, that of a page, as an exponent of 2
abbrev pub MOST_EXPONENT : ℕ
MOST_EXPONENT = 14

-- a member's alignment costs twice: in front of the member, and in front of its cell
abbrev pub cost_of : Member → ℕ
cost_of m = m.size + 2 * (2 ^ m.exponent - 1)

-- what a block of this size and alignment needs behind any place
abbrev pub block_cost : ℕ → ℕ → ℕ
block_cost size exponent = size + (2 ^ exponent - 1)

abbrev pub extent_cost : Extent → ℕ
extent_cost e = block_cost e.size e.exponent
