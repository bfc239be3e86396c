-- Parts of the definitions of `Sections`, by names that proofs use.
use Rattle.std.specs.Prelude.{ℕ, ◌/◌, ◌^◌, ◌%◌, ◌*◌, ◌-◌}
use Rattle.macho_unwind.specs.Sections.{personality_in}

-- the 8 bits above them: the number of its encoding
abbrev pub index_in : ℕ → ℕ
index_in word = word / 2 ^ 24

-- the low 24 bits of a function word: the start of the function, from that of the page's first function on
abbrev pub offset_in : ℕ → ℕ
offset_in word = word % 2 ^ 24

-- an encoding with these bits cleared
abbrev pub without_personality : ℕ → ℕ
without_personality encoding = encoding - 2 ^ 28 * personality_in encoding
