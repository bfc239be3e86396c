-- What is said of one row, and of all words.
--
-- A row whose operands are all there adds what its effect adds. What all words give is the fold from nothing, with the words in front put
-- first. A fault of the fold is that of the words.
use Rattle.std.proofs.Common.{◌≡◌, ℕ, ◌≤◌, arith, nat_lt, false, refl, sym, ap, ◌∙◌, inl, inr, List, [], ◌∷◌, ◌++◌, codes, length, map, take, Ok, String}
use Rattle.std.specs.String.{string_bytes}
use Rattle.std.proofs.lemmas.Bool.Decides.{nat_tests}
use Rattle.std.proofs.lemmas.List.{take-map, length-map}
use Rattle.ld64_words.specs.declared.effects.Effect.{Effect}
use Rattle.ld64_words.specs.declared.effects.Effect.TheVariants.{Lowest}
use Rattle.ld64_words.specs.declared.fault.WordFault.{WordFault}
use Rattle.ld64_words.specs.Rows.{OptionRow, count_of, operand_of}
use Rattle.ld64_words.specs.Words.{Asked, Said, read_from, read_row, with_effect, given_by, given_from, nothing_asked}
use Rattle.ld64_words.specs.steps.Words.{HasCause}

-- one row, whose operands are all there
module _ {A : Type 0} (row is : OptionRow) (i count : ℕ) (word text : List ℕ) (behind operands : List (String A)) (s : Asked)
    (same : row ≡ is) (counted : count ≡ count_of row.operands) (enough : count ≤ length behind)
    (is_text : text ≡ operand_of row word (map string_bytes behind)) (are_operands : operands ≡ take count behind) where
  few : nat_lt (length (map string_bytes behind)) count ≡ false
  few = rw (length-map behind string_bytes) (grind (arith, nat_tests))

  own : take count (map string_bytes behind) ≡ map string_bytes operands
  own = take-map string_bytes count behind ∙ ap (map string_bytes) (sym are_operands)

  pub row-added : (t : Asked) → with_effect row.effect i (word ∷ map string_bytes operands) text s ≡ Ok t
      → read_row is i word (map string_bytes behind) s ≡ Ok (t, count)
  unfolding read_row
  row-added t added = rw (← same, ← counted, few, own, ← is_text, added) refl

  pub row-refused : (fault : WordFault) → HasCause (with_effect row.effect i (word ∷ map string_bytes operands) text s) fault
      → HasCause (read_row is i word (map string_bytes behind) s) fault
  unfolding read_row
  row-refused fault (inl memory) = inl memory
  row-refused fault (inr why) = inr (rw (← same, ← counted, few, own, ← is_text, why) refl)

-- The lowest version is the version of the SDK, too: two words, and two more.
pub lowest-added : (effect : Effect) (i : ℕ) (own : List (List ℕ)) (text : List ℕ) (front words names after : List (List ℕ))
    (notes : List Said)
    → effect ≡ Lowest → names ≡ words ++ codes "-platform_version" ∷ codes "macos" ∷ [] → after ≡ names ++ text ∷ text ∷ []
    → with_effect effect i own text (record { front = front; words = words; notes = notes })
    ≡ Ok (record { front = front; words = after; notes = notes })
unfolding with_effect
lowest-added effect i own text front words names after notes is named valued = rw (is, valued, named) refl

-- what all words give
pub all-given : (words : List (List ℕ)) (start s : Asked) → start ≡ nothing_asked → read_from 0 0 words start ≡ Ok s
    → given_by words ≡ Ok (given_from s)
unfolding given_by
all-given words start s fresh read = rw (← fresh, read) refl

pub all-refused : (words : List (List ℕ)) (start : Asked) (fault : WordFault) → start ≡ nothing_asked
    → HasCause (read_from 0 0 words start) fault → HasCause (given_by words) fault
unfolding given_by
all-refused words start fault fresh (inl memory) = inl memory
all-refused words start fault fresh (inr why) = inr (rw (← fresh, why) refl)
