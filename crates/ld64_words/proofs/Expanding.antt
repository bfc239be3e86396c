-- The words with texts in place of one of them.
--
-- What stands behind a word and its operands is what stands behind the word, without as many words as its row has operands. The words in
-- front of it, the texts and the words behind follow one another.
use Rattle.std.proofs.Common.{◌≡◌, ℕ, ◌+◌, ◌<◌, refl, ◌∙◌, List, [], ◌∷◌, ◌++◌, length, map, take, drop, get_or, String}
use Rattle.std.specs.String.{string_bytes}
use Rattle.std.proofs.lemmas.List.{drop-map, take-map}
use Rattle.ld64_words.specs.Files.{words_behind, expanded_of}
use Rattle.ld64_words.specs.Rows.{OptionRow, row_for, count_of}
use Rattle.ld64_words.proofs.Turns.{mapped-at}

pub behind-is : {A : Type 0} (words behind rest : List (String A)) (place count : ℕ) (word : String A) (text : List ℕ) (row : OptionRow)
    → place < length words → word ≡ get_or words place word → text ≡ string_bytes word → behind ≡ drop (place + 1) words
    → row ≡ row_for text (map string_bytes behind) → count ≡ count_of row.operands → rest ≡ drop count behind
    → map string_bytes rest ≡ words_behind (drop place (map string_bytes words))
unfolding words_behind
behind-is words behind rest place count word text row within is is_text is_behind same counted left =
    let at : drop place (map string_bytes words) ≡ text ∷ map string_bytes behind =
    drop-map string_bytes place words ∙ (mapped-at string_bytes words place word within is ∙ rw (is_text, is_behind) refl) in
    rw (at, ← same, ← counted, left, drop-map string_bytes count behind) refl

pub expanded-is : {A : Type 0} (words : List (String A)) (place : ℕ) (texts start one two three rest : List (List ℕ))
    → start ≡ [] → one ≡ start ++ map string_bytes (take place words) → two ≡ one ++ texts
    → rest ≡ words_behind (drop place (map string_bytes words)) → three ≡ two ++ rest
    → three ≡ expanded_of (map string_bytes words) place texts
unfolding expanded_of
expanded-is words place texts start one two three rest none front middle back all =
    rw (all, middle, front, none, back, take-map string_bytes place words) refl
