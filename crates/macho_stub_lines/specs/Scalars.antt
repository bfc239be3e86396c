-- Scalars: plain, in single quotes, or in double quotes.
use Rattle.std.specs.Prelude.{ℕ, ◌+◌, Bool, ◌&&◌, ◌||◌, not, List, [], ◌∷◌, take, Option, Some, None, ◌==◌, slice_index, if◌then◌else◌}
use Rattle.std.specs.List.{prefix_len}
use Rattle.macho_stub_lines.specs.declared.scalar.Scalar.{Scalar}
use Rattle.macho_stub_lines.specs.Bytes.{is_plain_byte, has_late_control, single_quote, double_quote, backslash}

-- A scalar at the front of some bytes: what it says, and how many bytes it takes with its quotes.
pub record ScalarSpan : Type 0 where
  pub text : List ℕ
  pub width : ℕ

abbrev pub span_of : Scalar → ScalarSpan
span_of scalar = record { text = scalar.text.now; width = scalar.width }

-- A plain scalar: the longest front of plain bytes, at least one, with no control character in it.
unfoldable pub plain_front : List ℕ → Option ScalarSpan
plain_front bytes =
    if prefix_len is_plain_byte bytes == 0 || has_late_control (take (prefix_len is_plain_byte bytes) bytes) then None
    else Some (record { text = take (prefix_len is_plain_byte bytes) bytes; width = prefix_len is_plain_byte bytes })

-- what stands in single quotes has no single quote
abbrev pub in_single : ℕ → Bool
in_single b = not (b == single_quote)

-- what stands in double quotes is neither a double quote nor a backslash
abbrev pub in_double : ℕ → Bool
in_double b = not (b == double_quote) && not (b == backslash)

-- A quoted scalar, from behind its opening quote: the bytes that may stand inside, and then the closing quote.
unfoldable pub quoted_front : (ℕ → Bool) → ℕ → List ℕ → Option ScalarSpan
quoted_front inside quote bytes =
    if slice_index bytes (prefix_len inside bytes) == quote
    then Some (record { text = take (prefix_len inside bytes) bytes; width = prefix_len inside bytes + 2 })
    else None

-- the scalar that the bytes begin with
unfoldable pub scalar_front : List ℕ → Option ScalarSpan
scalar_front [] = None
scalar_front (b ∷ bytes) =
    if b == single_quote then quoted_front in_single single_quote bytes
    else (if b == double_quote then quoted_front in_double double_quote bytes else plain_front (b ∷ bytes))
