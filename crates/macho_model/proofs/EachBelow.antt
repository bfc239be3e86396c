-- A test of all numbers below a count, and of all elements of a list, as one answer.
--
-- The answer is true exactly where each test is: were one false, `list_all` would have met it. Where the answer is
-- false, walking the list finds the first test that fails.
use Rattle.std.proofs.Common.{◌≡◌, ◌≢◌, ℕ, ◌==◌, ◌⊎◌, inl, inr, ◌<◌, Bool, true, false, ◌&&◌, ◌||◌, not, List, [], ◌∷◌, get_or, refl, sym, subst, ◌∙◌, arith, All}
use Rattle.std.specs.List.{list_all, range_with_len}
use Rattle.std.proofs.lemmas.List.FromFn.{get_or-range_with_len, length-range_with_len}
use Rattle.macho_bytes.proofs.Bools.{true_or_false}
use Rattle.macho_bytes.proofs.Members.{all_pass, pass_all}

-- each number below a count passes a test
abbrev pub each_below : ℕ → (ℕ → Bool) → Bool
each_below n test = list_all test (range_with_len 0 n)

-- all numbers pass
pub below_pass : (n : ℕ) (test : ℕ → Bool) → each_below n test ≡ true → (k : ℕ) → k < n → test k ≡ true
below_pass n test h k lt =
    let same : get_or (range_with_len 0 n) k 0 ≡ k = get_or-range_with_len 0 n k 0 lt ∙ omega arith in
    let long = length-range_with_len 0 n in
    let there = all_pass test (range_with_len 0 n) h k 0 (omega arith) in
    subst (λ j. test j ≡ true) same there

pub pass_below : (n : ℕ) (test : ℕ → Bool) → ((k : ℕ) → k < n → test k ≡ true) → each_below n test ≡ true
pass_below n test h = pass_all test (range_with_len 0 n) each
  where
    each : All (λ k. test k ≡ true) (range_with_len 0 n)
    each k d lt =
        let long = length-range_with_len 0 n in
        let within : k < n = omega arith in
        let same : get_or (range_with_len 0 n) k d ≡ k = get_or-range_with_len 0 n k d within ∙ omega arith in
        subst (λ j. test j ≡ true) (sym same) (h k within)

-- a number that fails
pub fails_below : (n : ℕ) (test : ℕ → Bool) (k : ℕ) → k < n → test k ≡ false → each_below n test ≡ false
fails_below n test k within fails = not_so (each_below n test) (λ all. true_or_false (test k) (below_pass n test all k within) fails)
  where
    not_so : (t : Bool) → (t ≡ true → ⊥) → t ≡ false
    not_so true h = absurd (h refl)
    not_so false h = refl
