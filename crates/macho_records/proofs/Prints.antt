-- What is said of a printed name holds where its bytes are ASCII.
--
-- Bytes that pass the test are ASCII: one that isn't would fail it. So what is shown of ASCII bytes is shown of what
-- `ascii_output` says, and of other bytes it says nothing.
use Rattle.std.proofs.Common.{◌≡◌, ℕ, ◌≤◌, Bool, true, false, List, length, slice_index, refl, arith, inl, inr, IfSome, Some, None, nat_lt, if◌then◌else◌}
use Rattle.std.specs.List.{list_all}
use Rattle.std.specs.Str.{IsAscii}
use Rattle.std.proofs.lemmas.Bool.{cases_lt}
use Rattle.std.proofs.lemmas.Bool.Decides.{nat_tests}
use Rattle.std.proofs.lemmas.List.{get_or_past}
use Rattle.std.proofs.lemmas.List.Folds.{list_all_at}
use Rattle.macho_records.specs.Texts.{ascii_output}

-- a number of 128 or more fails the test
wide : (n : ℕ) → 128 ≤ n → nat_lt n 128 ≡ false
wide n h = grind (arith, nat_tests)

-- bytes that pass the test are ASCII
ascii : (bytes : List ℕ) → list_all (λ b. nat_lt b 128) bytes ≡ true → IsAscii bytes
ascii bytes all i =
    elim (cases_lt i (length bytes)) [
      | inr past ↦ let zero_there = get_or_past bytes i 0 past in omega arith
      | inl within ↦
          elim (cases_lt (slice_index bytes i) 128) [
            | inl small ↦ small
            | inr big ↦ let none = list_all_at (λ b. nat_lt b 128) bytes i 0 within (wide (slice_index bytes i) big) in cc
          ]
    ]

-- by the test's answer
by_test : (P : List ℕ → Type 0) (bytes : List ℕ) (b : Bool) → (b ≡ true → P bytes) → IfSome (if b then Some bytes else None) P
by_test P bytes true holds = holds refl
by_test P bytes false holds = tt

-- what holds of ASCII bytes holds of their output
pub if_ascii : (P : List ℕ → Type 0) (bytes : List ℕ) → (IsAscii bytes → P bytes) → IfSome (ascii_output bytes) P
if_ascii P bytes holds = by_test P bytes (list_all (λ b. nat_lt b 128) bytes) (λ all. holds (ascii bytes all))
