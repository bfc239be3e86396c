-- Where the strings of a table end.
--
-- A table has a NUL from a place on, or none: the place of the first is below its length, or nowhere.
use Rattle.std.proofs.Common.{◌≡◌, ℕ, ◌<◌, ◌≤◌, ◌==◌, true, List, length, slice_index, inl, inr, sym, ◌∙◌, arith, eq-eqb, length-take, false, ap, ltb}
use Rattle.std.specs.List.{position_or_len}
use Rattle.std.proofs.lemmas.Bool.{cases_lt, false≢true}
use Rattle.std.proofs.lemmas.List.Sums.{fails_before_first}
use Rattle.macho_bytes.specs.Texts.{name_of}
use Rattle.macho_model.specs.ObjectRules.{has_nul}
use Rattle.macho_bytes.proofs.Names.{name_of-whole}
use Rattle.macho_bytes.proofs.Comparing.{not_less}
use Rattle.std.proofs.lemmas.Bool.Decides.{nat_tests}

-- a text without a NUL has no end
pub nul_missing : (text : List ℕ) → ((i : ℕ) → i < length text → slice_index text i ≡ 0 → ⊥) → has_nul text ≡ false
nul_missing text none = not_less (length (name_of text)) (length text) (omega (arith, ap length (name_of-whole text none)))

-- the tests of an order
pub below : (m n : ℕ) → m < n → ltb m n ≡ true
below m n h = grind (arith, nat_tests)

-- a NUL ends a text
pub nul_ends : (text : List ℕ) (k : ℕ) → k < length text → slice_index text k ≡ 0 → has_nul text ≡ true
nul_ends text k lt is =
    let first : position_or_len (λ b. b == 0) text ≤ k =
    elim (cases_lt k (position_or_len (λ b. b == 0) text)) [
      | inl before ↦ absurd (false≢true (sym (fails_before_first (λ b. b == 0) text k 0 before) ∙ eq-eqb (slice_index text k) 0 is))
      | inr at ↦ at
    ] in
    below (length (name_of text)) (length text) (omega (arith, length-take (position_or_len (λ b. b == 0) text) text))
