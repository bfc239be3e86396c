-- Laws of links that are fit: contracts of functions of `src/laws.rt`.
use Rattle.std.specs.Prelude.{None}
use Rattle.macho_model.specs.declared.placed.Counts.{Counts}
use Rattle.macho_model.specs.Links.{Link}
use Rattle.macho_model.specs.Faults.{LinkFault, UndefinedSymbol, EntryNotDefined, ExportListMissing, BadInitializer, BadUnwind, UnsupportedRelocation, OverlappingFields, BindAddend, FixupPlace, FaultStands}
use Rattle.macho_image_laws.specs.Leads.{PersonalitiesFit}
use Rattle.macho_consumed.specs.Told.{EntriesKeepRules}
use Rattle.macho_reading.specs.Read.{IsFit}

-- a refusal is of a kind that is looked for before anything has an address
abbrev pub IsEarly : LinkFault → Type 0
IsEarly (UndefinedSymbol name file) = Unit {0}
IsEarly (EntryNotDefined name) = Unit {0}
IsEarly (ExportListMissing name) = Unit {0}
IsEarly (BadInitializer file section offset) = Unit {0}
IsEarly (BadUnwind file section entry rule) = Unit {0}
IsEarly (UnsupportedRelocation file section relocation) = Unit {0}
IsEarly (OverlappingFields file section first second) = Unit {0}
IsEarly (BindAddend file section relocation addend) = Unit {0}
IsEarly (FixupPlace file section relocation None) = Unit {0}
IsEarly fault = ⊥

-- of a link that is fit none stands
abbrev pub ReadIsNotRefused : Type 0
ReadIsNotRefused = (l : Link) (counts : Counts) (f : LinkFault) → IsFit l → IsEarly f → FaultStands l counts f → ⊥

-- unwind entries that keep their rules have personality functions that are somewhere
abbrev pub PersonalitiesAreFit : Type 0
PersonalitiesAreFit = (l : Link) → EntriesKeepRules l → PersonalitiesFit l
