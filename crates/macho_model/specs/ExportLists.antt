-- Export lists: a text of lines, each a name or a pattern in which `*` stands for any run of bytes.
use Rattle.std.specs.Prelude.{ℕ, ◌+◌, ◌==◌, ◌&&◌, ◌||◌, not, if◌then◌else◌, Bool, List, [], ◌∷◌, length, map, filter, take, drop, reverse, take_while}
use Rattle.std.specs.List.{flat_map, list_any, before_first, range_with_len, slice_split}
use Rattle.std.specs.Str.{bytes_eq}

-- the star of a pattern
abbrev pub STAR : ℕ
STAR = 42

-- a text without the spaces, tabs and carriage returns (32, 9, 13) that it begins with
abbrev pub without_front : List ℕ → List ℕ
without_front text = drop (length (take_while (λ b. (b == 32) || (b == 9) || (b == 13)) text)) text

-- the entries of a text, in order: of each line (they end with byte 10) what stands before a `#` (35), without
-- these bytes at both ends, unless that is empty
unfoldable pub entries_of : List ℕ → List (List ℕ)
entries_of text =
    filter (λ e. not (length e == 0))
    (map (λ line. reverse (without_front (reverse (without_front (before_first (λ b. b == 35) line))))) (slice_split (λ b. b == 10) text))

-- the entries of several lists, in order, and the plain ones among them; an entry with a star is a pattern
unfoldable pub all_entries : List (List ℕ) → List (List ℕ)
all_entries texts = flat_map entries_of texts

unfoldable pub plain_entries : List (List ℕ) → List (List ℕ)
plain_entries texts = filter (λ e. not (list_any (λ b. b == STAR) e)) (all_entries texts)

-- A name matches an entry: behind a star some rest of the name matches the rest of the entry; any other byte is the
-- first one of the name.
abbrev pub matches : List ℕ → List ℕ → Bool
matches [] name = length name == 0
matches (c ∷ entry) name =
    if c == STAR then list_any (λ k. matches entry (drop k name)) (range_with_len 0 (length name + 1))
    else bytes_eq (take 1 name) (c ∷ []) && matches entry (drop 1 name)

-- the lists contain a name
abbrev pub listed : List (List ℕ) → List ℕ → Bool
listed texts name = list_any (λ e. matches e name) (all_entries texts)
