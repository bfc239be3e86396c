-- The first byte of a kind, by a search, and the front of bytes that aren't of the kind.
-- The code looks for the first byte that ends a run, or that may not stand at all; the definitions speak of the longest
-- front of bytes that pass a test (`prefix_len`), and of whether any passes (`list_any`). Both are settled by what the
-- search answers: no byte before the place is of the kind, and the one at the place is. So the front is as long as the
-- place, or all there is where none is found (`front_len`), and some byte is of the kind where one is found
-- (`any_found`).
use Rattle.std.proofs.Common.{◌≡◌, ℕ, zero, suc, ◌<◌, ◌||◌, ◌&&◌, Bool, true, false, not, List, [], ◌∷◌, length, get_or, Option, None, Some, refl, sym, ap, ◌∙◌, arith}
use Rattle.std.specs.Prelude.{is_some, unwrap_or}
use Rattle.std.specs.List.{prefix_len, list_any}
use Rattle.std.proofs.lemmas.List.Sums.{prefix_len_is}
use Rattle.memchr.specs.Find.{IsFirstByte}

not_true : (b : Bool) → (b ≡ true → ⊥) → not b ≡ true
not_true true h = absurd (h refl)
not_true false h = refl

-- a byte is neither of two
pub neither : (x y : Bool) → (not x && not y) ≡ not (x || y)
neither true y = refl
neither false y = refl

-- the front ends at the first byte of the kind that ends it, or where the bytes end
pub front_len : (ends inside : ℕ → Bool) → ((b : ℕ) → inside b ≡ not (ends b)) → (bytes : List ℕ) (found : Option ℕ)
    → IsFirstByte ends bytes found → prefix_len inside bytes ≡ unwrap_or found (length bytes)
front_len ends inside agree bytes None h = prefix_len_is inside bytes (length bytes) 0 (omega arith)
    (λ k lt. agree (get_or bytes k 0) ∙ not_true (ends (get_or bytes k 0)) (h k (omega arith) lt)) (λ lt. absurd (omega arith))
front_len ends inside agree bytes (Some place) h = prefix_len_is inside bytes place 0 (omega (arith, h.0.high))
    (λ k lt. agree (get_or bytes k 0) ∙ not_true (ends (get_or bytes k 0)) (h.0.before k (omega arith) lt))
    (λ lt. agree (get_or bytes place 0) ∙ ap not h.1)

none_of : (test : ℕ → Bool) (bytes : List ℕ) → ((k : ℕ) → k < length bytes → test (get_or bytes k 0) ≡ true → ⊥)
    → list_any test bytes ≡ false
none_of test [] h = refl
none_of test (b ∷ bytes) h =
    both (test b) (list_any test bytes) (h 0 (omega arith)) (none_of test bytes (λ k lt. h (suc k) (omega (arith, lt))))
  where
    both : (x y : Bool) → (x ≡ true → ⊥) → y ≡ false → (x || y) ≡ false
    both true y h e = absurd (h refl)
    both false y h e = e

some_of : (test : ℕ → Bool) (bytes : List ℕ) (k : ℕ) → k < length bytes → test (get_or bytes k 0) ≡ true → list_any test bytes ≡ true
some_of test [] k lt e = absurd (omega arith)
some_of test (b ∷ bytes) zero lt e = rw e refl
some_of test (b ∷ bytes) (suc k) lt e = either (test b) (list_any test bytes) (some_of test bytes k (omega (arith, lt)) e)
  where
    either : (x y : Bool) → y ≡ true → (x || y) ≡ true
    either true y e = refl
    either false y e = e

-- some byte is of the kind where one is found
pub any_found : (test : ℕ → Bool) (bytes : List ℕ) (found : Option ℕ) → IsFirstByte test bytes found
    → is_some found ≡ list_any test bytes
any_found test bytes None h = sym (none_of test bytes (λ k lt. h k (omega arith) lt))
any_found test bytes (Some place) h = sym (some_of test bytes place h.0.high h.1)
