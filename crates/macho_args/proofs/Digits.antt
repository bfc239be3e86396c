-- What std's `parse` answers for a text of digits, against `number_up_to`.
--
-- A text of digits has no sign, so `parse` at 32 bits answers its value exactly where the text isn't
-- empty and the value is below 2 ^ 32. The bound `most` is itself below 2 ^ 32, so whatever is at most
-- `most` was read, and what wasn't read is above it or isn't there.
use Rattle.std.proofs.Common.{◌≡◌, ℕ, ◌<◌, ◌^◌, Bool, true, false, cond, List, length, Option, None, Some, Result, Ok, Err, MatchResult, rules, arith, refl, sym, nat_le, nat_lt, ◌&&◌}
use Rattle.std.specs.Char.{is_ascii_digit}
use Rattle.std.specs.List.{list_all}
use Rattle.std.specs.Str.Parse.{ParsesUnsigned, digits_value}
use Rattle.std.proofs.lemmas.Bool.Decides.{nat_tests}
use Rattle.std.proofs.lemmas.Str.Parse.{IsDigitsTest, IsNumeralModel, numerals_by_value, parse_digits}
use Rattle.macho_args.specs.Numbers.{number_up_to}

digits_test : IsDigitsTest (λ text. list_all is_ascii_digit text ≡ true)
digits_test = search rules

own : IsNumeralModel (λ text. list_all is_ascii_digit text ≡ true) (digits_value 10)
own = numerals_by_value _ digits_test

-- the definition, over its tests and its number
chosen : (some all : Bool) (value most : ℕ) → Option ℕ
chosen some all value most = cond ((some && all) && nat_le value most) (Some value) None

none_unless_all : (some : Bool) (value most : ℕ) → chosen some false value most ≡ None
unfolding chosen
none_unless_all true value most = refl
none_unless_all false value most = refl

some_where_small : (len value most n : ℕ) → 0 < len → value ≡ n
    → chosen (nat_lt 0 len) true value most ≡ cond (nat_le n most) (Some n) None
unfolding chosen
some_where_small len value most n long is = grind (arith, nat_tests)

none_where_large : (len value most : ℕ) → most < 2 ^ 32 → (0 < len × value < 2 ^ 32 → ⊥)
    → chosen (nat_lt 0 len) true value most ≡ None
unfolding chosen
none_where_large len value most small not_read = grind (arith, nat_tests)

-- no number is written by what isn't all digits
pub number-no_digits : (most : ℕ) (text : List ℕ) → list_all is_ascii_digit text ≡ false → number_up_to most text ≡ None
unfolding number_up_to chosen
number-no_digits most text h = rw h (none_unless_all (nat_lt 0 (length text)) (digits_value 10 text) most)

-- `parse` reads what is at most `most`
pub number-parsed : {E : Type 0} (most : ℕ) (text : List ℕ) (r : Result ℕ E)
    → most < 2 ^ 32 → list_all is_ascii_digit text ≡ true → ParsesUnsigned 32 10 text r
    → MatchResult r (λ n. number_up_to most text ≡ cond (nat_le n most) (Some n) None) (λ _. number_up_to most text ≡ None)
unfolding number_up_to chosen
number-parsed {E} most text (Ok n) small digits h =
    let p = parse_digits own {E = E} 32 text (Ok n) h digits in
    rw digits (some_where_small (length text) (digits_value 10 text) most n p.0.0 (sym p.1))
number-parsed {E} most text (Err e) small digits h =
    let p = parse_digits own {E = E} 32 text (Err e) h digits in
    rw digits (none_where_large (length text) (digits_value 10 text) most small p)
