-- The number that a name is looked for by. It begins with a seed, and takes in words of 8 bytes: the name's length, its whole words and
-- its last bytes; of a long name, its first bytes and its last ones.
use Rattle.std.specs.Prelude.{ℕ, ◌+◌, ◌*◌, ◌-◌, ◌/◌, ◌%◌, ◌^◌, nat_lt, nat_le, if◌then◌else◌, take, drop, List, length, map, bit_xor}
use Rattle.std.specs.List.{fold, range_with_len}
use Rattle.macho_bytes.specs.Numbers.{le_at}
use Rattle.macho_symbol_names.specs.declared.hashing.TheConstants.{MIXER}

-- a number times another, the high half over the low one
abbrev pub folded : ℕ → ℕ
folded product = bit_xor (product % 2 ^ 64) (product / 2 ^ 64)

abbrev pub hash_step : ℕ → ℕ → ℕ
hash_step hash word = folded (bit_xor hash word * MIXER)

-- the first whole words of some bytes are taken in
unfoldable pub hash_words : ℕ → List ℕ → ℕ → ℕ
hash_words start bytes count = fold hash_step start (map (λ k. le_at 8 bytes (8 * k)) (range_with_len 0 count))

-- one byte more of a word
abbrev pub word_step : ℕ → ℕ → ℕ
word_step word byte = (word * 256 % 2 ^ 64 + byte) % 2 ^ 64

-- the last 8 bytes, or all
unfoldable pub last_word : List ℕ → ℕ
last_word bytes = if nat_lt (length bytes) 8 then fold word_step 0 bytes else le_at 8 bytes (length bytes - 8)

unfoldable pub hash_behind : ℕ → List ℕ → ℕ
hash_behind start bytes = hash_step (hash_words start bytes (length bytes / 8)) (last_word bytes)

unfoldable pub hash_of : ℕ → List ℕ → ℕ
hash_of seed name =
    if nat_le (length name) 4096 then hash_behind (hash_step seed (length name)) name
    else hash_behind (hash_behind (hash_step seed (length name)) (take 2048 name)) (drop (length name - 2048) name)
