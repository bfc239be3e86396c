-- What is read of all consumed sections, by the views of the files.
use Rattle.std.specs.Prelude.{◌≡◌, ◌/◌, ◌<◌, List, length, Contains, Option, Some, None, get_or}
use Rattle.macho_object.specs.Views.{FileBytes}
use Rattle.macho_model.specs.Objects.{num_sections, section_at}
use Rattle.macho_symbols.specs.Kept.{ResolvedRows}
use Rattle.macho_consumed.specs.declared.listing.Kind.{Kind}
use Rattle.macho_consumed.specs.declared.listing.Kind.TheVariants.{Initializers, Entries}
use Rattle.macho_consumed.specs.declared.listing.SectionRef.{SectionRef}
use Rattle.macho_consumed.specs.declared.rows.Initializer.{Initializer}
use Rattle.macho_consumed.specs.declared.rows.UnwindEntry.{UnwindEntry}
use Rattle.macho_consumed.specs.declared.fault.ConsumedFault.{ConsumedFault}
use Rattle.macho_consumed.specs.declared.fault.ConsumedFault.TheVariants.{BadInitializer, BadUnwind, OutOfMemory}
use Rattle.macho_consumed.specs.steps.Listed.{refs_of, bytes_in}
use Rattle.macho_consumed.specs.steps.Slots.{SectionFits, IsBadSection, slot_rows}
use Rattle.macho_consumed.specs.steps.Entries.{SectionKeeps, IsBadUnwind, rows_in}

-- all sections of a kind
abbrev pub all_of : Kind → List (Option FileBytes) → List SectionRef
all_of kind files = refs_of kind files (length files)

-- A section that is listed is one of an object that is viewed.
pub record IsListed (files : List (Option FileBytes)) (s : SectionRef) : Type 0 where
  pub file : s.file < length files
  pub view : FileBytes
  pub is : get_or files s.file None ≡ Some view
  pub section : s.section < num_sections view.bytes

-- initializers
abbrev pub initializers_at : List (Option FileBytes) → SectionRef → List Initializer
initializers_at files s = slot_rows (bytes_in files s.file) s.file s.section ((section_at (bytes_in files s.file) s.section).size / 8)

abbrev pub FitsAt : ResolvedRows → List (Option FileBytes) → SectionRef → Type 0
FitsAt r files s = SectionFits r (bytes_in files s.file) s.file s.section

abbrev pub BreaksAt : ResolvedRows → List (Option FileBytes) → ConsumedFault → Type 0
BreaksAt r files fault = (s : SectionRef) × Contains (all_of Initializers files) s
    × IsBadSection r (bytes_in files s.file) s.file s.section fault

abbrev pub IsBadAt : ResolvedRows → List (Option FileBytes) → ConsumedFault → Type 0
IsBadAt r files (BadInitializer f s offset) = BreaksAt r files (BadInitializer f s offset)
IsBadAt r files (BadUnwind f s e rule) = ⊥
IsBadAt r files OutOfMemory = Unit {0}

-- unwind entries
abbrev pub entries_at : List (Option FileBytes) → SectionRef → List UnwindEntry
entries_at files s = rows_in (bytes_in files s.file) s.file s.section ((section_at (bytes_in files s.file) s.section).size / 32)

abbrev pub KeepsAt : ResolvedRows → List (Option FileBytes) → SectionRef → Type 0
KeepsAt r files s = SectionKeeps r (bytes_in files s.file) s.file s.section

abbrev pub BreaksRuleAt : ResolvedRows → List (Option FileBytes) → ConsumedFault → Type 0
BreaksRuleAt r files fault = (s : SectionRef) × Contains (all_of Entries files) s
    × IsBadUnwind r (bytes_in files s.file) s.file s.section fault

abbrev pub IsBadRuleAt : ResolvedRows → List (Option FileBytes) → ConsumedFault → Type 0
IsBadRuleAt r files (BadInitializer f s offset) = ⊥
IsBadRuleAt r files (BadUnwind f s e rule) = BreaksRuleAt r files (BadUnwind f s e rule)
IsBadRuleAt r files OutOfMemory = Unit {0}
