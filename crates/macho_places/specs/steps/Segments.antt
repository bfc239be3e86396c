-- The segment that an address of the file is found in.
use Rattle.std.specs.Prelude.{◌≡◌, ℕ, ◌+◌, ◌<◌, ◌&&◌, nat_le, nat_lt, Bool, false, List, get_or}
use Rattle.macho_model.specs.declared.placed.PlacedSegment.{PlacedSegment}

-- a segment has an address in its file part
abbrev pub has_in_file : ℕ → PlacedSegment → Bool
has_in_file a s = nat_le s.address a && nat_lt a (s.address + s.file_size)

-- none of the first segments has the address in its file part
pub record HaveNot (a : ℕ) (segments : List PlacedSegment) (n : ℕ) : Type 0 where
  pub none : (k : ℕ) (d : PlacedSegment) → k < n → has_in_file a (get_or segments k d) ≡ false
