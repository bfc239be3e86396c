-- The stub text (the `.tbd` format, version 4) that says a library's install name and the names that it offers.
use Rattle.std.specs.Prelude.{ℕ, List, [], ◌∷◌, ◌++◌, codes, if◌then◌else◌}
use Rattle.std.specs.List.{flat_map, join_by}
use Rattle.macho_model.specs.Links.{StubReading}
use Rattle.macho_tbd.specs.Writable.{has_single}

-- a name in single quotes, or in double ones where it holds a single quote
unfoldable pub quoted : List ℕ → List ℕ
quoted name = if has_single name then codes "\"" ++ (name ++ codes "\"") else codes "'" ++ (name ++ codes "'")

-- the line of some names under a key, if there are any
abbrev pub name_lines : List ℕ → List (List ℕ) → List (List ℕ)
name_lines key [] = []
name_lines key (name ∷ names) =
    (codes "    " ++ (key ++ (codes ": [ " ++ (join_by quoted (codes ", ") (name ∷ names) ++ codes " ]")))) ∷ []

-- the lines of what is exported, if there is anything
abbrev pub export_lines : List (List ℕ) → List (List ℕ) → List (List ℕ)
export_lines [] [] = []
export_lines names weak_names =
    codes "exports:" ∷ codes "  - targets: [ arm64e-macos ]"
    ∷ (name_lines (codes "symbols") names ++ name_lines (codes "weak-symbols") weak_names)

-- THE lines of the text: one document
unfoldable pub stub_lines : StubReading → List (List ℕ)
stub_lines says =
    codes "--- !tapi-tbd" ∷ codes "tbd-version: 4" ∷ codes "targets: [ arm64e-macos ]"
    ∷ (codes "install-name: " ++ quoted says.install_name) ∷ codes "current-version: 1"
    ∷ (export_lines says.names says.weak_names ++ codes "..." ∷ [])

-- the text: each line ends with a line feed
unfoldable pub text_of : StubReading → List ℕ
text_of says = flat_map (λ line. line ++ codes "\n") (stub_lines says)
