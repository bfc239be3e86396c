-- Where a text may be cut: before and behind a byte of ASCII.
-- The code cuts a line at counted places, and a text of UTF-8 may be cut only between characters. A byte of ASCII is a
-- character by itself, so behind one there is such a place (`cut_behind`), and so there is behind a run of them
-- (`run_cut`): of spaces, of digits, of zeros. Plain bytes may be past ASCII, but what ends their run is ASCII or the
-- end of the bytes, and before such a byte a text may be cut too (`plain_cut`).
use Rattle.std.proofs.Common.{◌≡◌, ℕ, ◌+◌, ◌-◌, ◌<◌, Bool, true, false, List, length, get_or, arith, inl, inr, subst}
use Rattle.std.specs.List.{prefix_len}
use Rattle.std.specs.Str.{IsUtf8, IsCharBoundary}
use Rattle.std.proofs.lemmas.Str.{IsCharBoundary-after_ascii, IsCharBoundary-start}
use Rattle.std.proofs.lemmas.Bool.{cases_lt}
use Rattle.std.proofs.lemmas.List.{get_or_past}
use Rattle.std.proofs.lemmas.Bool.Decides.{nat_tests}
use Rattle.std.proofs.lemmas.List.Sums.{prefix_len_stops, prefix_len_passes, prefix_len-le-length}
use Rattle.std.specs.Char.{is_ascii_digit}
use Rattle.macho_stub_lines.specs.Keys.{is_zero}
use Rattle.macho_stub_lines.specs.Bytes.{is_plain_byte, is_mark}
use Rattle.macho_stub_lines.specs.steps.Bytes.{is_space}

-- a byte past ASCII is plain
plain_past_ascii : (b : ℕ) → is_plain_byte b ≡ false → b < 128
unfolding is_plain_byte is_mark
plain_past_ascii b h = grind (arith, nat_tests)

-- behind its plain bytes a text may be cut
pub plain_cut : (bytes : List ℕ) → IsCharBoundary bytes (prefix_len is_plain_byte bytes)
plain_cut bytes = (
  prefix_len-le-length is_plain_byte bytes,
  λ lt high. absurd
      (omega (arith, plain_past_ascii (get_or bytes (prefix_len is_plain_byte bytes) 0) (prefix_len_stops is_plain_byte bytes 0 lt))),
)

-- behind a byte of ASCII a text may be cut, and it has that byte
pub cut_behind : (bytes : List ℕ) (i b : ℕ) → IsUtf8 bytes → get_or bytes i 0 ≡ b → 0 < b → b < 128 → (i < length bytes)
    × IsCharBoundary bytes (i + 1)
cut_behind bytes i b utf8 is positive ascii =
    let within : i < length bytes = elim (cases_lt i (length bytes))
    [ inl lt ↦ lt | inr past ↦ absurd (omega (arith, get_or_past bytes i 0 past)) ] in
    (within, IsCharBoundary-after_ascii bytes i utf8 within (omega arith))

-- Behind a run of ASCII a text may be cut.
pub run_cut : (p : ℕ → Bool) (ascii : (b : ℕ) → p b ≡ true → b < 128) (bytes : List ℕ) → IsUtf8 bytes
    → IsCharBoundary bytes (prefix_len p bytes)
run_cut p ascii bytes utf8 =
    elim (cases_lt 0 (prefix_len p bytes)) [
      | inl some ↦
          let n = prefix_len p bytes in
          let last : n - 1 < n = omega arith in
          let e : n - 1 + 1 ≡ n = omega arith in
          let within : n - 1 < length bytes = omega (arith, prefix_len-le-length p bytes) in
          let C : ℕ → Type 0 = λ i. IsCharBoundary bytes i in
          subst C e (IsCharBoundary-after_ascii bytes (n - 1) utf8 within
          (ascii (get_or bytes (n - 1) 0) (prefix_len_passes p bytes (n - 1) 0 last)))
      | inr none ↦
          let e : 0 ≡ prefix_len p bytes = omega arith in
          let C : ℕ → Type 0 = λ i. IsCharBoundary bytes i in
          subst C e (IsCharBoundary-start bytes utf8)
    ]

-- spaces are ASCII
pub space_ascii : (b : ℕ) → is_space b ≡ true → b < 128
space_ascii b h = grind (arith, nat_tests)

-- and zeros
pub zero_ascii : (b : ℕ) → is_zero b ≡ true → b < 128
zero_ascii b h = grind (arith, nat_tests)

-- and digits
pub digit_ascii : (b : ℕ) → is_ascii_digit b ≡ true → b < 128
digit_ascii b h = grind (arith, nat_tests)
