-- A relocation of a table beside its neighbours.
use Rattle.std.specs.Prelude.{◌≡◌, ℕ, ◌+◌, ◌-◌, nat_le, nat_lt, if◌then◌else◌, Bool, false, List, Option, Some, None, IfSome}
use Rattle.macho_wire.specs.declared.relocations.RelocationInfo.{RelocationInfo}
use Rattle.macho_wire.specs.Relocations.{BitsFit}
use Rattle.macho_model.specs.Objects.{section_at, relocation_at}
use Rattle.macho_model.specs.Fields.{is_difference, is_with_addend, is_pair}
use Rattle.macho_relocation_scan.specs.declared.pairs.Seen.{Seen}

-- relocation r of section k
abbrev pub window_in : List ℕ → ℕ → ℕ → Seen
window_in b k r = record {
  before = if nat_le 1 r then Some (relocation_at b k (r - 1)) else None;
  this = relocation_at b k r;
  next = if nat_lt (r + 1) (section_at b k).nreloc then Some (relocation_at b k (r + 1)) else None;
}

-- what was seen last before relocation r of section k: the one in front of it, if there is one, with its neighbours
pub record IsLast (b : List ℕ) (k r : ℕ) (last : Option Seen) : Type 0 where
  pub is : last ≡ (if nat_le 1 r then Some (window_in b k (r - 1)) else None)
  pub bits : IfSome last (λ w. IfSome w.next BitsFit)

-- the relocation that was seen
abbrev pub this_of : Option Seen → Option RelocationInfo
this_of None = None
this_of (Some w) = Some w.this

abbrev pub tests_before : (RelocationInfo → RelocationInfo → Bool) → Option RelocationInfo → RelocationInfo → Bool
tests_before test None this = false
tests_before test (Some q) this = test q this

abbrev pub tests_next : (RelocationInfo → RelocationInfo → Bool) → RelocationInfo → Option RelocationInfo → Bool
tests_next test this None = false
tests_next test this (Some q) = test this q

-- a subtrahend or an addend stands before it; it is the first of a pair
abbrev pub subtracted : Seen → Bool
subtracted w = tests_before is_difference w.before w.this

abbrev pub with_addend : Seen → Bool
with_addend w = tests_before is_with_addend w.before w.this

abbrev pub begins : Seen → Bool
begins w = tests_next is_pair w.this w.next

-- it is the second of a pair
abbrev pub ends : Seen → Bool
ends w = tests_before is_pair w.before w.this
