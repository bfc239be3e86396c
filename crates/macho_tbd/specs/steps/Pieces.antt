-- The pieces in which the text is written.
use Rattle.std.specs.Prelude.{ℕ, List, [], ◌∷◌, ◌++◌, codes}
use Rattle.std.specs.List.{flat_map, join_by}
use Rattle.macho_tbd.specs.Text.{quoted}

-- names in quotes, with a comma and a space before each
abbrev pub others_of : List (List ℕ) → List ℕ
others_of names = flat_map (λ name. codes ", " ++ quoted name) names

-- the line of some names, with what it begins with, if there are any
abbrev pub line_of : List ℕ → List (List ℕ) → List ℕ
line_of begin [] = []
line_of begin (name ∷ names) = begin ++ (join_by quoted (codes ", ") (name ∷ names) ++ codes " ]\n")

-- the lines of what is exported, if there is anything
abbrev pub exports_of : List (List ℕ) → List (List ℕ) → List ℕ
exports_of [] [] = []
exports_of names weak_names =
    codes "exports:\n  - targets: [ arm64e-macos ]\n"
    ++ (line_of (codes "    symbols: [ ") names ++ line_of (codes "    weak-symbols: [ ") weak_names)
