-- The paths by which files are told, without where they lie in memory.
use Rattle.std.specs.Prelude.{ℕ, ◌-◌, List, [], length, map, get_or}
use Rattle.std.specs.String.{string_bytes}
use Rattle.macho_job.specs.declared.names.FileNames.{FileNames}

abbrev pub names_of : FileNames → List (List ℕ)
names_of names = map string_bytes names.paths.items

-- the path of a file by its number, empty where there is none
abbrev pub file_name : List (List ℕ) → ℕ → List ℕ
file_name paths number = get_or paths number []

-- the path of the last file
abbrev pub last_name : List (List ℕ) → List ℕ
last_name paths = file_name paths (length paths - 1)
