-- The fields of a member's header (`ar(5)`): texts that are filled with spaces, and numbers in decimal digits.
use Rattle.std.specs.Prelude.{ℕ, ◌-◌, ◌==◌, nat_lt, ◌&&◌, if◌then◌else◌, List, length, take, Option, None, Some}
use Rattle.std.specs.Char.{is_ascii_digit}
use Rattle.std.specs.List.{list_all, suffix_len}
use Rattle.std.specs.Str.Parse.{digits_value}

-- what the fields are filled with
abbrev pub SPACE : ℕ
SPACE = 32

-- a text without the bytes of one value at its end
unfoldable pub trimmed : ℕ → List ℕ → List ℕ
trimmed fill text = take (length text - suffix_len (λ b. b == fill) text) text

-- the number that a text of one decimal digit or more writes
unfoldable pub decimal_of : List ℕ → Option ℕ
decimal_of text = if nat_lt 0 (length text) && list_all is_ascii_digit text then Some (digits_value 10 text) else None
