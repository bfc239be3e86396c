-- Tests of one byte, by name.
use Rattle.std.specs.Prelude.{ℕ, Bool, ◌||◌, ◌==◌}
use Rattle.macho_stub_lines.specs.Bytes.{space}

abbrev pub is_space : ℕ → Bool
is_space b = b == space

-- a byte that may stand nowhere in a text: NUL (0) or a tab (9)
abbrev pub is_barred : ℕ → Bool
is_barred b = b == 0 || b == 9
