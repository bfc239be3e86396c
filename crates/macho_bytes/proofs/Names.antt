-- Names end at their first NUL.
--
-- A name is what stands before the first byte that is zero. Where no byte below k is zero and byte k is, the first
-- zero is at k, so the name is the first k bytes. Where no byte is zero, the name is all of them.
use Rattle.std.proofs.Common.{◌≡◌, ℕ, ◌<◌, ◌==◌, false, List, length, take, slice_index, ap, ◌∙◌, arith, eq-eqb, zero, suc, replicate, Bool, true, [], ◌∷◌, ◌++◌, refl, sym}
use Rattle.std.proofs.lemmas.Bool.Decides.{nat_tests}
use Rattle.std.proofs.lemmas.List.{take_all}
use Rattle.std.proofs.lemmas.List.Sums.{position_or_len_is}
use Rattle.macho_bytes.specs.Texts.{name_of}
use Rattle.macho_bytes.proofs.Comparing.{first_stays}

-- a number that isn't zero fails the test for zero
fails : (n : ℕ) → (n ≡ 0 → ⊥) → (n == 0) ≡ false
fails n h = grind (arith, nat_tests)

-- the name ends at a zero behind no other
pub name_of-ends : (bytes : List ℕ) (k : ℕ) → k < length bytes → ((i : ℕ) → i < k → slice_index bytes i ≡ 0 → ⊥) → slice_index bytes k ≡ 0
    → name_of bytes ≡ take k bytes
name_of-ends bytes k within before zero_at =
    ap (λ (n : ℕ). take n bytes)
    (position_or_len_is (λ b. b == 0) bytes k 0 (omega arith) (λ i h. fails (slice_index bytes i) (before i h))
    (λ h. eq-eqb (slice_index bytes k) 0 zero_at))

-- a name without a zero is whole
pub name_of-whole : (bytes : List ℕ) → ((i : ℕ) → i < length bytes → slice_index bytes i ≡ 0 → ⊥) → name_of bytes ≡ bytes
name_of-whole bytes none =
    ap (λ (n : ℕ). take n bytes)
    (position_or_len_is (λ b. b == 0) bytes (length bytes) 0 (omega arith) (λ i h. fails (slice_index bytes i) (none i h))
    (λ h. absurd (omega arith)))
    ∙ take_all (length bytes) bytes (omega arith)

-- a name ends where the zeros behind it begin, or before
pub name_of-zeros : (name : List ℕ) (n : ℕ) → name_of (name ++ replicate n 0) ≡ name_of name
name_of-zeros [] zero = refl
name_of-zeros [] (suc n) = refl
name_of-zeros (x ∷ xs) n = by (name_of-zeros xs n) (x == 0) refl
  where
    by : name_of (xs ++ replicate n 0) ≡ name_of xs → (t : Bool) → (x == 0) ≡ t → name_of ((x ∷ xs) ++ replicate n 0) ≡ name_of (x ∷ xs)
    by rest true e = rw e refl
    by rest false e = rw e (first_stays x _ (xs ++ replicate n 0) ∙ ap (λ (t : List ℕ). x ∷ t) rest ∙ sym (first_stays x _ xs))

-- a name that doesn't begin with a NUL begins with its first byte
pub named-cons : (x : ℕ) (xs : List ℕ) → (x == 0) ≡ false → name_of (x ∷ xs) ≡ x ∷ name_of xs
named-cons x xs e = rw e (first_stays x _ xs)
