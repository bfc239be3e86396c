-- The layout of a record: what each of its fields is in the bytes at a place.
use Rattle.std.specs.Prelude.{ℕ, ◌+◌, nat_le, if◌then◌else◌, List, length, slice_range, Option, Some, None}
use Rattle.macho_bytes.specs.Numbers.{ByteOrder, little}

-- A layout: the byte order, how many bytes a record has, and how the record is made of what stands there: of numbers,
-- each by its width in bytes and its offset in the record, and of texts of 16 bytes (a name or a UUID), each by its offset.
pub record Layout (R : Type 0) : Type 0 where
  pub order : ByteOrder
  pub size : ℕ
  pub make : (ℕ → ℕ → ℕ) → (ℕ → List ℕ) → R

-- the layout of a record of little-endian numbers, as all are but the code signature's
abbrev pub little_record : {R : Type 0} → ℕ → ((ℕ → ℕ → ℕ) → (ℕ → List ℕ) → R) → Layout R
little_record size make = record { order = little; size = size; make = make }

-- the bytes of a record of the layout
abbrev pub size_of : {R : Type 0} → Layout R → ℕ
size_of l = l.size

-- the record that the bytes say at a place
unfoldable pub reading : {R : Type 0} → Layout R → List ℕ → ℕ → R
reading l bytes at =
    l.make (λ width offset. l.order.number_at width bytes (at + offset)) (λ offset. slice_range bytes (at + offset) (at + (offset + 16)))

-- the record at a place, where it stands whole inside the bytes
abbrev pub read_of : {R : Type 0} → Layout R → List ℕ → ℕ → Option R
read_of l bytes at = if nat_le (at + size_of l) (length bytes) then Some (reading l bytes at) else None
