-- Names that a trie can spell.
use Rattle.std.specs.Prelude.{ℕ, ◌<◌, ◌≤◌, List, length, slice_index}

-- a name of bytes from 1 to 255, as the labels of a trie's edges have them
abbrev pub IsSpelled : List ℕ → Type 0
IsSpelled name = (k : ℕ) → k < length name → (1 ≤ slice_index name k) × (slice_index name k < 256)
