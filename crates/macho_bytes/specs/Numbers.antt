-- Numbers in bytes. A list of bytes is a list of numbers below 256.
use Rattle.std.specs.Prelude.{ℕ, ◌+◌, ◌*◌, ◌/◌, ◌%◌, ◌^◌, ◌-◌, ◌<◌, nat_lt, if◌then◌else◌, List, [], ◌∷◌, drop}
use Rattle.std.specs.List.{flat_map}
use Rattle.byteorder.specs.Endian.{little_number, big_number, little_bytes, big_bytes}

-- the number of w bytes at a place, the lowest byte first
unfoldable pub le_at : ℕ → List ℕ → ℕ → ℕ
le_at w bytes i = little_number w (drop i bytes)

-- the number of w bytes at a place, the highest byte first
unfoldable pub be_at : ℕ → List ℕ → ℕ → ℕ
be_at w bytes i = big_number w (drop i bytes)

-- the lowest w bytes of a number, the lowest of them first
unfoldable pub le_bytes : ℕ → ℕ → List ℕ
le_bytes w n = little_bytes w n

-- the lowest w bytes of a number, the highest of them first
unfoldable pub be_bytes : ℕ → ℕ → List ℕ
be_bytes w n = big_bytes w n

-- A byte order: how a number is read at a place, and how it is spelled.
pub record ByteOrder : Type 0 where
  pub number_at : ℕ → List ℕ → ℕ → ℕ
  pub bytes_of : ℕ → ℕ → List ℕ

abbrev pub little : ByteOrder
little = record { number_at = le_at; bytes_of = le_bytes }

abbrev pub big : ByteOrder
big = record { number_at = be_at; bytes_of = be_bytes }

-- numbers of w bytes each, one after the other
unfoldable pub row_bytes : ByteOrder → ℕ → List ℕ → List ℕ
row_bytes order w numbers = flat_map (order.bytes_of w) numbers

-- each number fits w bytes
abbrev pub AllBelow : ℕ → List ℕ → Type 0
AllBelow w [] = Unit {0}
AllBelow w (n ∷ ns) = (n < 256 ^ w) × AllBelow w ns

-- the number in `count` bits of a word, from bit `from` on
abbrev pub bits : ℕ → ℕ → ℕ → ℕ
bits from count word = word / 2 ^ from % 2 ^ count

-- an n-bit number read as two's complement, as a number modulo 2 ^ 64
abbrev pub signed : ℕ → ℕ → ℕ
signed n x = if nat_lt x (2 ^ (n - 1)) then x else x + (2 ^ 64 - 2 ^ n)

-- arm64 instructions address memory by pages of 4 KiB (ADRP) and offsets in them
abbrev pub PAGE : ℕ
PAGE = 4096

-- the offset of an address in its 4 KiB page
abbrev pub low : ℕ → ℕ
low x = x % PAGE

-- the address of the 4 KiB page that holds an address
abbrev pub page : ℕ → ℕ
page x = x - low x

-- a number rounded up to a multiple of another
abbrev pub rounded_up : ℕ → ℕ → ℕ
rounded_up to n = (n + (to - 1)) / to * to
