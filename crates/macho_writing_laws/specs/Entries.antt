-- The entries that pointers need of their own, and the import table that they stand in.
use Rattle.std.specs.Prelude.{◌≡◌, ℕ, ◌<◌, true, List, length, map, None, All}
use Rattle.std.specs.declared.vec.Vec.{Vec}
use Rattle.std.specs.declared.alloc.Global.{Global}
use Rattle.macho_model.specs.declared.placed.Counts.{Counts}
use Rattle.macho_model.specs.declared.targets.Limit.{Limit}
use Rattle.macho_model.specs.Links.{Link}
use Rattle.macho_model.specs.Needs.{imports_of, libraries_needed}
use Rattle.macho_model.specs.Values.{fits_signed}
use Rattle.macho_model.specs.Fixups.{own_entries}
use Rattle.macho_model.specs.Limits.{PassesLimit}
use Rattle.macho_symbols.specs.declared.solved.Import.{Import}
use Rattle.macho_symbols.specs.Told.{ImportsAre}
use Rattle.macho_promise.specs.Sizes.{AreCounts}
use Rattle.macho_promise.specs.Sound.{IsSound}
use Rattle.macho_model.specs.Grammar.{ObjectsAreRead}
use Rattle.macho_image_laws.specs.Leads.{PersonalitiesFit}
use Rattle.macho_symbols.specs.declared.solved.OwnEntry.{OwnEntry}
use Rattle.macho_linkedit.specs.Imports.{texts, FitTable, AreOfLink}
use Rattle.macho_symbols.specs.Entries.{entry_of}

-- an entry of a pointer's own is one of an import, with an addend of 32 bits
abbrev pub OwnEntriesFit : Type 0
OwnEntriesFit =
    (l : Link) → ObjectsAreRead l → IsSound l → PersonalitiesFit l
    → All (λ e. (e.import < length (imports_of l)) × (fits_signed 32 e.addend ≡ true)) (own_entries l)

-- no number of the link passes its limit
abbrev pub NumbersHold : Link → Counts → Type 0
NumbersHold l counts = (what : Limit) (number : ℕ) → PassesLimit l counts what number None → ⊥

-- These are the imports of a sound link, its own entries and its libraries, and no number passes its limit.
pub record AreOfSoundLink (l : Link) (counts : Counts) (imports : List Import) (own : List OwnEntry) (libraries : List (Vec ℕ Global))
    : Type 0 where
  pub objects : ObjectsAreRead l
  pub sound : IsSound l
  pub personalities : PersonalitiesFit l
  pub counted : AreCounts l counts
  pub numbers : NumbersHold l counts
  pub imports_are : ImportsAre l (imports_of l) imports
  pub own_are : map entry_of own ≡ own_entries l
  pub libraries_are : texts libraries ≡ libraries_needed l

-- then they make a table
abbrev pub EntriesFit : Type 0
EntriesFit =
    (l : Link) (counts : Counts) (imports : List Import) (own : List OwnEntry) (libraries : List (Vec ℕ Global))
    → AreOfSoundLink l counts imports own libraries → FitTable imports own libraries

abbrev pub EntriesAreOfLink : Type 0
EntriesAreOfLink =
    (l : Link) (counts : Counts) (imports : List Import) (own : List OwnEntry) (libraries : List (Vec ℕ Global))
    → AreOfSoundLink l counts imports own libraries → AreOfLink l imports own libraries
