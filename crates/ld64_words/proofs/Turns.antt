-- One turn of the loop over the words.
--
-- The words from number i on are the word i and the words behind it. If it is an operand, one operand fewer is left. Else its row is read,
-- and the words behind it go on from what it gave; its fault is theirs. After the last word nothing is left.
use Rattle.std.proofs.Common.{◌≡◌, ℕ, zero, suc, ◌+◌, ◌-◌, ◌<◌, ◌≤◌, arith, refl, ap, ◌∙◌, inl, inr, add-one, List, [], ◌∷◌, length, map, drop, get_or, Result, Ok, IfOk, IfErr, String}
use Rattle.std.specs.String.{string_bytes}
use Rattle.std.proofs.Math.Seq.{drop-cons}
use Rattle.std.proofs.lemmas.List.{drop-map, drop-drop}
use Rattle.std.proofs.lemmas.Result.{IfOk-weaker, IfErr-weaker}
use Rattle.ld64_words.specs.declared.fault.WordFault.{WordFault}
use Rattle.ld64_words.specs.steps.Words.{HasCause}
use Rattle.ld64_words.specs.Rows.{row_for}
use Rattle.ld64_words.specs.Words.{Asked, read_from, read_row}

-- after the last word
pub read-nothing : (passed i : ℕ) (s : Asked) → read_from passed i [] s ≡ Ok s
unfolding read_from
read-nothing zero i s = refl
read-nothing (suc passed) i s = refl

-- an operand is passed over
read-skip : (passed i : ℕ) (words : List (List ℕ)) (s : Asked) → 0 < passed
    → read_from passed i words s ≡ read_from (passed - 1) (i + 1) (drop 1 words) s
unfolding read_from
read-skip zero i words s some = absurd (omega arith)
read-skip (suc passed) i [] s some = refl
read-skip (suc passed) i (word ∷ behind) s some = ap (λ n. read_from n (i + 1) behind s) (omega arith)

-- the same at a place of all words
pub turn-operand : {A : Type 0} (words : List (String A)) (i passed : ℕ) (s : Asked) → 0 < passed
    → read_from passed i (map string_bytes (drop i words)) s
    ≡ read_from (passed - 1) (i + 1) (map string_bytes (drop (i + 1) words)) s
turn-operand words i passed s some =
    read-skip passed i (map string_bytes (drop i words)) s some
    ∙ ap (λ texts. read_from (passed - 1) (i + 1) texts s) (drop-map string_bytes 1 (drop i words) ∙ rw drop-drop refl)

-- a word that is read
read-word : (i : ℕ) (word : List ℕ) (behind : List (List ℕ)) (s t : Asked) (count : ℕ)
    → read_row (row_for word behind) i word behind s ≡ Ok (t, count)
    → read_from 0 i (word ∷ behind) s ≡ read_from count (i + 1) behind t
unfolding read_from
read-word i word behind s t count read = rw read refl

-- a word that is refused
read-refused : (i : ℕ) (word : List ℕ) (behind : List (List ℕ)) (s : Asked) (fault : WordFault)
    → HasCause (read_row (row_for word behind) i word behind s) fault
    → HasCause (read_from 0 i (word ∷ behind) s) fault
unfolding read_from
read-refused i word behind s fault (inl memory) = inl memory
read-refused i word behind s fault (inr why) = inr (rw why refl)

-- an element at a place, and those behind it, under a function
pub mapped-at : {X Y : Type 0} (f : X → Y) (xs : List X) (i : ℕ) (x : X) → i < length xs → x ≡ get_or xs i x
    → map f (drop i xs) ≡ f x ∷ map f (drop (i + 1) xs)
mapped-at f xs i x within is = ap (map f) (drop-cons xs i x within) ∙ rw (add-one, ← is) refl

-- One turn, where no operand is left: `word` stands at place i of the words, and `behind` is what stands behind it.
module _ {A : Type 0} (words : List (String A)) (i passed : ℕ) (word : String A) (text : List ℕ) (behind : List (String A)) (s : Asked)
    (result : Result ℕ WordFault) (none : passed ≤ 0) (within : i < length words) (is : word ≡ get_or words i word)
    (is_text : text ≡ string_bytes word) (is_behind : behind ≡ drop (i + 1) words) where
  at_word : read_from passed i (map string_bytes (drop i words)) s ≡ read_from 0 i (text ∷ map string_bytes behind) s
  at_word =
      let zero_left : passed ≡ 0 = omega arith in
      rw (zero_left, mapped-at string_bytes words i word within is, is_text, is_behind) refl

  pub turn-done : (t : Asked)
      → IfOk result (λ n. read_row (row_for text (map string_bytes behind)) i text (map string_bytes behind) s ≡ Ok (t, n))
      → IfOk result (λ left. read_from passed i (map string_bytes (drop i words)) s
      ≡ read_from left (i + 1) (map string_bytes (drop (i + 1) words)) t)
  turn-done t read =
      IfOk-weaker result _ _ (λ n done. at_word ∙ (read-word i text (map string_bytes behind) s t n done ∙ rw is_behind refl)) read

  pub turn-why : IfErr result (HasCause (read_row (row_for text (map string_bytes behind)) i text (map string_bytes behind) s))
      → IfErr result (HasCause (read_from passed i (map string_bytes (drop i words)) s))
  turn-why why =
      IfErr-weaker result _ _ (λ fault cause. rw at_word (read-refused i text (map string_bytes behind) s fault cause)) why
