-- What a search answered.
use Rattle.std.specs.Prelude.{ℕ, List, All, Option, None, Some}
use Rattle.std.specs.String.{string_bytes}
use Rattle.macho_args.specs.Store.{Store}
use Rattle.macho_devices.specs.declared.file_system.FileFault.{FileFault}
use Rattle.macho_devices.specs.declared.file_system.FileFault.TheVariants.{Failed, OutOfMemory}
use Rattle.macho_devices.specs.Faults.{CountRose}
use Rattle.macho_job.specs.declared.search.FoundFile.{FoundFile}
use Rattle.macho_job.specs.Search.{FileIs, IsFirstHeld}

-- the first of the paths that holds a file, or none where none does
abbrev pub IsSearched : Option Store → List (List ℕ) → Option FoundFile → Type 0
IsSearched told paths None = All (FileIs told None) paths
IsSearched told paths (Some found) = IsFirstHeld told paths (string_bytes found.path) found.bytes.items

-- one of several calls failed: their count rose
abbrev pub FailedSince : ℕ → ℕ → FileFault → Type 0
FailedSince old new Failed = CountRose old new
FailedSince old new OutOfMemory = Unit {0}
