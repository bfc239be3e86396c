-- What memory holds of a loaded image where the addresses of its imports are given by their numbers.
use Rattle.std.specs.Prelude.{◌≡◌, ℕ, ◌<◌, List, Contains}
use Rattle.std.specs.List.{slice_get}
use Rattle.macho_model.specs.Images.{Table, tables_of, fixups_header, import_entry, import_name, import_library_name}
use Rattle.macho_model.specs.Memory.{Choice, chosen, Holds}

-- A choice of import addresses has these addresses, by the numbers of the imports in the image's table, and no others.
abbrev pub Gives : List ℕ → List ℕ → Choice → Type 0
Gives b addresses choice =
    (t : Table) (k : ℕ) → Contains (tables_of b) t → k < (fixups_header b t).imports_count
    → chosen choice (import_library_name b (import_entry b t k)) (import_name b t (import_entry b t k)) ≡ slice_get addresses k

-- of each choice that gives these addresses: memory holds a byte, or none
abbrev pub HoldsFor : List ℕ → ℕ → List ℕ → ℕ → ℕ → Type 0
HoldsFor b s addresses x v = (choice : Choice) → Gives b addresses choice → Holds b s choice x v

abbrev pub HoldsNothing : List ℕ → ℕ → List ℕ → ℕ → Type 0
HoldsNothing b s addresses x = (v : ℕ) (choice : Choice) → Gives b addresses choice → Holds b s choice x v → ⊥
