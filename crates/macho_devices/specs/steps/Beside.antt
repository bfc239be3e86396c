-- The names of the files that are written beside an output.
use Rattle.std.specs.Prelude.{ℕ, ◌-◌, ◌==◌, not, List, ◌++◌, length, take, codes, decimal}
use Rattle.std.specs.List.{suffix_len}

-- the byte between the names of a path
abbrev pub SLASH : ℕ
SLASH = 47

-- the folder of a path, with the slash behind it; nothing where the path has no slash
unfoldable pub folder_of : List ℕ → List ℕ
folder_of path = take (length path - suffix_len (λ b. not (b == SLASH)) path) path

-- a name in the folder of a path
unfoldable pub name_beside : List ℕ → ℕ → List ℕ
name_beside path number = folder_of path ++ (codes ".wild_macho." ++ decimal number)
