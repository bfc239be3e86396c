use Rattle.std.proofs.Common.{take}
use Rattle.std.specs.HashMap.{get}
use Rattle.macho_linkedit.specs.Imports.{texts}
use Rattle.macho_linkedit.specs.Libraries.{same_text, FindsPlaces}
use Rattle.macho_linkedit.proofs.libraries.library_places.Given as goal

-- the first places of the libraries so far
abbrev pub invariant-loop-place : goal.invariant-loop-place
invariant-loop-place l = FindsPlaces (texts (take l.place l.libraries)) (get same_text l.places)
