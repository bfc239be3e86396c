-- Numbers that a text writes in decimal digits.
use Rattle.std.specs.Prelude.{ℕ, nat_lt, nat_le, ◌&&◌, List, length, Option, None, Some, if◌then◌else◌}
use Rattle.std.specs.Char.{is_ascii_digit}
use Rattle.std.specs.List.{list_all}
use Rattle.std.specs.Str.Parse.{digits_value}

-- the number that a text of one decimal digit or more writes, if it is at most `most`
unfoldable pub number_up_to : ℕ → List ℕ → Option ℕ
number_up_to most text =
    if (nat_lt 0 (length text) && list_all is_ascii_digit text) && nat_le (digits_value 10 text) most then Some (digits_value 10 text)
    else None
