-- The bytes that a stub text (the `.tbd` format, version 4) is made of. In the files on text stubs a thing stands behind another where it
-- comes after it in the text.
use Rattle.std.specs.Prelude.{ℕ, ◌+◌, Bool, true, false, ◌&&◌, ◌||◌, not, List, [], ◌∷◌, drop, slice_index, codes, ◌==◌, nat_lt}
use Rattle.std.specs.List.{prefix_len, list_any}
use Rattle.std.specs.Char.{is_ascii_alphanumeric}

abbrev pub line_feed : ℕ
line_feed = 10

abbrev pub space : ℕ
space = 32

abbrev pub double_quote : ℕ
double_quote = 34

abbrev pub number_sign : ℕ
number_sign = 35

abbrev pub single_quote : ℕ
single_quote = 39

abbrev pub comma : ℕ
comma = 44

abbrev pub dash : ℕ
dash = 45

abbrev pub zero_digit : ℕ
zero_digit = 48

abbrev pub colon : ℕ
colon = 58

abbrev pub open_bracket : ℕ
open_bracket = 91

abbrev pub backslash : ℕ
backslash = 92

abbrev pub close_bracket : ℕ
close_bracket = 93

-- a byte of a key: a letter, a digit or a dash
unfoldable pub is_key_byte : ℕ → Bool
is_key_byte b = is_ascii_alphanumeric b || b == dash

-- A byte that has a meaning of its own outside quotes. The last two are braces.
unfoldable pub is_mark : ℕ → Bool
is_mark b =
    b == comma || b == single_quote || b == double_quote || b == number_sign
    || b == open_bracket || b == close_bracket || b == 123 || b == 125

-- A byte of a plain scalar: no space, no control character of ASCII (127 is one too), no comma, quote, number sign,
-- bracket or brace.
unfoldable pub is_plain_byte : ℕ → Bool
is_plain_byte b = nat_lt space b && not (b == 127) && not (is_mark b)

-- Behind the byte `last`, the bytes have a control character past ASCII, U+0080 to U+009F: in UTF-8 it is 0xC2 and
-- a byte below 0xA0.
unfoldable pub has_late_control_after : ℕ → List ℕ → Bool
has_late_control_after last [] = false
has_late_control_after last (b ∷ bytes) = (last == 0xC2 && nat_lt b 0xA0) || has_late_control_after b bytes

-- the bytes have a control character past ASCII
abbrev pub has_late_control : List ℕ → Bool
has_late_control bytes = has_late_control_after 0 bytes

-- how many spaces the bytes begin with
unfoldable pub indent : List ℕ → ℕ
indent bytes = prefix_len (λ b. b == space) bytes

-- the bytes from the first that is no space
unfoldable pub unspaced : List ℕ → List ℕ
unspaced bytes = drop (indent bytes) bytes

-- Nothing, or a number sign (35) and what follows it.
unfoldable pub is_blank_or_comment : List ℕ → Bool
is_blank_or_comment [] = true
is_blank_or_comment (b ∷ bytes) = b == 35

-- A line that is passed over: it is blank, or its first byte past spaces is a number sign.
unfoldable pub is_passed : List ℕ → Bool
is_passed line = is_blank_or_comment (unspaced line)

-- What may stand behind a value on its line: nothing, or spaces and then nothing or a comment.
unfoldable pub is_tail : List ℕ → Bool
is_tail [] = true
is_tail (b ∷ bytes) = b == space && is_passed bytes

-- one of the bytes may stand nowhere in a text: it is NUL (0) or a tab (9)
unfoldable pub has_barred : List ℕ → Bool
has_barred bytes = list_any (λ b. b == 0 || b == 9) bytes

-- ---- lines of their own

-- the head of a document
abbrev pub head : List ℕ
head = codes "--- !tapi-tbd"

-- what ends a document
abbrev pub end : List ℕ
end = codes "..."

-- A dash (45) and a space behind the line's first spaces.
unfoldable pub has_dash : List ℕ → Bool
has_dash line = slice_index line (indent line) == 45 && slice_index line (indent line + 1) == space

-- The line is skipped with the value of a key in column 0: it is further in, or an item with its dash in column 0.
unfoldable pub belongs_to_top : List ℕ → Bool
belongs_to_top line = slice_index line 0 == space || (slice_index line 0 == dash && slice_index line 1 == space)
