-- When scalars and keys are sound, by tests that compute. The definitions speak of each byte; for the bytes of an example
-- a test over all of them is computed, and the lemmas here lead from its answer to the definition.
-- The test on a byte is the reader's own, so each byte that passes has what the definition says of it, by arithmetic alone
-- (`single`, `double`). A key with a value behind one space, and one with none, are put together from these (`valued`,
-- `bare`).
use Rattle.std.proofs.Common.{◌≡◌, ◌≢◌, ℕ, ◌<◌, Bool, true, false, eqb, ltb, List, [], ◌∷◌, length, refl, arith}
use Rattle.std.proofs.lemmas.Bool.{and_parts}
use Rattle.std.specs.List.{AllByRecursion, list_all}
use Rattle.std.proofs.lemmas.Bool.Decides.{nat_tests}
use Rattle.macho_stub_lines.specs.Bytes.{space, number_sign, single_quote, double_quote, backslash, is_plain_byte, is_key_byte, has_late_control, is_tail}
use Rattle.macho_stub_lines.specs.Scalars.{in_single, in_double}
use Rattle.macho_stub_lines.specs.Slices.{Slice, Line}
use Rattle.macho_stub_lines.specs.Spelling.{IsPlain, NoValue, Value, IsEntry}
use Rattle.macho_stub_lines.proofs.Bind.{ne_at}
use Rattle.macho_bytes.proofs.Maps.{all_weaker}

-- a text at its place, and a line with its number and place
abbrev pub slice : ℕ → List ℕ → Slice
slice at text = record { at = at; text = text }

-- a line with its number and place
abbrev pub line : ℕ → ℕ → List ℕ → Line
line number at text = record { number = number; at = at; text = text }

-- ---- what is sound

-- all bytes pass a test
pub each : (test : ℕ → Bool) (bytes : List ℕ) → list_all test bytes ≡ true → AllByRecursion (λ b. test b ≡ true) bytes
each test [] e = tt
each test (b ∷ bytes) e = let p = and_parts (test b) (list_all test bytes) e in (p.0, each test bytes p.1)

-- there is a byte
pub some : (bytes : List ℕ) → ltb 0 (length bytes) ≡ true → 0 < length bytes
some bytes e = grind (arith, nat_tests)

-- a plain scalar
pub plain : (text : List ℕ) → ltb 0 (length text) ≡ true → list_all is_plain_byte text ≡ true → has_late_control text ≡ false → IsPlain text
plain text long bytes controls = record { some = some text long; bytes = each is_plain_byte text bytes; controls = controls }

-- what may stand in single quotes, and in double quotes
pub single : (text : List ℕ) → list_all in_single text ≡ true → AllByRecursion (λ b. b ≢ single_quote) text
single text e = all_weaker (λ b. in_single b ≡ true) (λ b. b ≢ single_quote) (λ b h s. grind (arith, nat_tests)) text
    (each in_single text e)

-- and in double quotes
pub double : (text : List ℕ) → list_all in_double text ≡ true → AllByRecursion (λ b. (b ≢ double_quote) × (b ≢ backslash)) text
double text e = all_weaker (λ b. in_double b ≡ true) (λ b. (b ≢ double_quote) × (b ≢ backslash))
    (λ b h. (λ s. grind (arith, nat_tests), λ s. grind (arith, nat_tests))) text (each in_double text e)

-- a key with a value behind a space, and one with nothing
pub valued : (key : List ℕ) (b : ℕ) (value : List ℕ) → ltb 0 (length key) ≡ true → list_all is_key_byte key ≡ true
    → eqb b space ≡ false → eqb b number_sign ≡ false → IsEntry (record { key = key; behind = Value 1 (b ∷ value) })
valued key b value long bytes s n = record {
  some = some key long;
  bytes = each is_key_byte key bytes;
  behind = (omega arith, (ne_at b space s, ne_at b number_sign n));
}

-- a key with no value
pub bare : (key : List ℕ) → ltb 0 (length key) ≡ true → list_all is_key_byte key ≡ true
    → IsEntry (record { key = key; behind = NoValue [] })
unfolding is_tail
bare key long bytes = record { some = some key long; bytes = each is_key_byte key bytes; behind = refl }
