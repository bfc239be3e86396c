-- Words taken into a hash one after the other: the whole words of some bytes are a map over their numbers, and one number more at the
-- end of these is one step more at the end of the fold.
use Rattle.std.proofs.Common.{◌≡◌, ℕ, ◌+◌, ◌*◌, List, [], ◌∷◌, map, ap, ◌∙◌, refl, arith}
use Rattle.std.specs.List.{fold, range_with_len}
use Rattle.std.proofs.lemmas.List.FromFn.{map-range_with_len_more}
use Rattle.std.proofs.lemmas.List.Sums.{fold-append}
use Rattle.macho_bytes.specs.Numbers.{le_at}
use Rattle.macho_symbol_names.specs.Hashing.{hash_step, hash_words}

-- no word, and one word more
pub words_none : (start : ℕ) (bytes : List ℕ) → hash_words start bytes 0 ≡ start
unfolding hash_words
words_none start bytes = refl

pub words_more : (start : ℕ) (bytes : List ℕ) (n : ℕ)
    → hash_words start bytes (n + 1) ≡ hash_step (hash_words start bytes n) (le_at 8 bytes (8 * n))
unfolding hash_words
words_more start bytes n =
    let f : ℕ → ℕ = λ k. le_at 8 bytes (8 * k) in
    ap (fold hash_step start) (map-range_with_len_more f 0 n n (omega arith))
    ∙ fold-append hash_step start (map f (range_with_len 0 n)) (f n ∷ [])
