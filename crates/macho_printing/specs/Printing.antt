-- What a sink says of a text that is printed in pieces.
use Rattle.std.specs.Prelude.{◌≡◌, ℕ, List, ◌++◌, codes, ◌⊎◌, decimal, Result, OnOk, OnErr}
use Rattle.std.specs.Fmt.{signed_decimal}
use Rattle.byteorder.specs.Endian.{big_bytes}
use Rattle.hex.specs.Hex.{encode_lower}
use Rattle.macho_devices.specs.Devices.{Printed, TakesBytes, TakesPrefix}
use Rattle.macho_devices.specs.Faults.{CountsOn, CountRose}
use Rattle.macho_printing.specs.declared.line_buffer.LineBuffer.{LineBuffer}
use Rattle.macho_printing.specs.declared.pieces.Piece.{Piece}
use Rattle.macho_printing.specs.declared.pieces.Piece.TheVariants.{Text, Number, Signed, Address, Digest, LineFeed}

-- a number as `0x` and its 16 digits
abbrev pub hex_text : ℕ → List ℕ
hex_text n = codes "0x" ++ encode_lower (big_bytes 8 n)

-- the text of a piece
abbrev pub piece_text : Piece → List ℕ
piece_text (Text text) = text.now
piece_text (Number number) = decimal number
piece_text (Signed number) = signed_decimal number
piece_text (Address address) = hex_text address
piece_text (Digest digest) = encode_lower digest.now
piece_text LineFeed = codes "\n"

-- A text is printed: the sink took all of it, or it failed and took the first of it.
pub record IsPrinted {A E : Type 0} (old new : Printed) (text : List ℕ) (result : Result A E) : Type 0 where
  pub done : OnOk result (TakesBytes old new text)
  pub left : OnErr result (TakesPrefix old new text)
  pub why : OnErr result (CountRose old.failed new.failed)
  pub counted : CountsOn old.failed new.failed

-- A line is told: whole, or only the first of it where the sink failed; nothing is claimed of the rest.
abbrev pub IsLineTold : (old new : Printed) → (line : List ℕ) → Type 0
IsLineTold old new line = TakesBytes old new line ⊎ (TakesPrefix old new line × CountRose old.failed new.failed)

-- what a buffer holds: the bytes that were pushed and that no sink has taken yet
abbrev pub held_in : LineBuffer → List ℕ
held_in lines = lines.held.items

-- The sink took the first of what was held and the text behind it; the rest is held.
pub record Passes (old new : Printed) (old_held new_held text : List ℕ) : Type 0 where
  pub sent : List ℕ
  pub split : old_held ++ text ≡ sent ++ new_held
  pub taken : TakesBytes old new sent

-- A text is pushed behind what is held, or the sink failed and took the first of both.
pub record IsPushed {A E : Type 0} (old new : Printed) (old_held new_held text : List ℕ) (result : Result A E) : Type 0 where
  pub done : OnOk result (Passes old new old_held new_held text)
  pub left : OnErr result (TakesPrefix old new (old_held ++ text))
  pub why : OnErr result (CountRose old.failed new.failed)
  pub counted : CountsOn old.failed new.failed
