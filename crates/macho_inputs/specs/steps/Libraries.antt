-- Install names as the code holds them.
use Rattle.std.specs.Prelude.{ℕ, ◌||◌, not, Bool, List, map}
use Rattle.std.specs.List.{list_any}
use Rattle.std.specs.Str.{bytes_eq}
use Rattle.macho_symbols.specs.declared.solved.Import.{Import}

-- the install names that imports ask for
abbrev pub asked_of : List Import → List (List ℕ)
asked_of imports = map (λ import. import.library.items) imports

-- a library is kept: each is, or only one that is asked for
abbrev pub is_kept : Bool → List (List ℕ) → List ℕ → Bool
is_kept dead_strip asked library = not dead_strip || list_any (bytes_eq library) asked
