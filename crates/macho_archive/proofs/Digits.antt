-- Decimal digits, read from the first to the last.
--
-- The value of i + 1 digits is ten times that of i, and the last digit. The value of some of the digits is at most that of all, and
-- of up to 16 digits it is below 10 ^ 16.
use Rattle.std.proofs.Common.{◌≡◌, ℕ, ◌+◌, ◌-◌, ◌*◌, ◌^◌, ◌<◌, ◌≤◌, true, List, [], ◌∷◌, length, get_or, take, rules, arith}
use Rattle.std.specs.Char.{is_ascii_digit, digit_value}
use Rattle.std.specs.List.{list_all}
use Rattle.std.specs.Int.{IsInRange}
use Rattle.std.specs.Str.Parse.{AllDigits, digits_value}
use Rattle.std.proofs.lemmas.Bool.Decides.{nat_tests}
use Rattle.std.proofs.lemmas.Int.Digits.{digits_value_more}
use Rattle.std.proofs.lemmas.Str.{digit_value_digit}
use Rattle.std.proofs.lemmas.Str.Parse.{digits_value-take-le, digits_value_short, numerals_by_value, tells_digits, digit_at}

digit : (c : ℕ) → is_ascii_digit c ≡ true → digit_value c < 10
digit c h =
    let range : IsInRange 48 57 c = search rules in
    omega (arith, digit_value_digit c range, range.1)

-- a text whose bytes are digits
pub all_digits : (text : List ℕ) → list_all is_ascii_digit text ≡ true → AllDigits 10 text
all_digits [] h = tt
all_digits (c ∷ cs) h =
    let parts : (is_ascii_digit c ≡ true) × (list_all is_ascii_digit cs ≡ true) = grind (arith, nat_tests) in
    (digit c parts.0, all_digits cs parts.1)

-- one digit more
pub digit_more : (text : List ℕ) (i : ℕ) → AllDigits 10 text → i < length text
    → digits_value 10 (take i text) * 10 + (get_or text i 0 - 48) ≡ digits_value 10 (take (i + 1) text)
digit_more text i all lt =
    let value : digit_value (get_or text i 0) + 48 ≡ get_or text i 0 = digit_value_digit (get_or text i 0) (digit_at text i all lt) in
    omega (arith, value, digits_value_more 10 text i lt)

-- the value of some digits is small
pub digits_small : (text : List ℕ) (i : ℕ) → AllDigits 10 text → length text ≤ 16 → digits_value 10 (take i text) < 10 ^ 16
digits_small text i all short =
    let some = digits_value-take-le 10 text i (omega arith) in
    let whole = digits_value_short (numerals_by_value (AllDigits 10) tells_digits) text 16 all short in
    omega (arith, some, whole)
