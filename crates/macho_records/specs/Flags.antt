-- Bits of a word, as the headers of Mach-O name them by masks.
use Rattle.std.specs.Prelude.{ℕ, ◌==◌, Bool, not, bit_and}

-- some bit of the mask is set in the word
abbrev pub has_any : ℕ → ℕ → Bool
has_any mask word = not (bit_and word mask == 0)
