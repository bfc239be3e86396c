-- The tests of rows: where the symbols of initializers and personalities lead, and that starts are distinct.
use Rattle.std.specs.Prelude.{◌≡◌, ℕ, ◌<◌, ◌||◌, Bool, true, List, length, Option, Some, None, get_or}
use Rattle.macho_model.specs.declared.rules.UnwindRule.TheVariants.{U6}
use Rattle.macho_model.specs.Objects.{num_symbols}
use Rattle.macho_model.specs.Links.{Link}
use Rattle.macho_model.specs.Targets.{is_defined, is_import}
use Rattle.macho_model.specs.Uses.{target_with}
use Rattle.macho_model.specs.Consumed.{is_section_target}
use Rattle.macho_symbols.specs.Kept.{ResolvedRows, IsResolved, HasSymbol, symbol_id}
use Rattle.macho_consumed.specs.declared.rows.Initializer.{Initializer}
use Rattle.macho_consumed.specs.declared.rows.UnwindEntry.{UnwindEntry}
use Rattle.macho_consumed.specs.declared.rows.PersonalityUse.{PersonalityUse}
use Rattle.macho_consumed.specs.declared.starts.StartKey.{StartKey}
use Rattle.macho_consumed.specs.declared.fault.ConsumedFault.{ConsumedFault}
use Rattle.macho_consumed.specs.declared.fault.ConsumedFault.TheVariants.{BadInitializer, BadUnwind, OutOfMemory}

-- each symbol of an object is one of those that are resolved
abbrev pub AreNamed : ResolvedRows → ℕ → List ℕ → Type 0
AreNamed r file b = (s : ℕ) → s < num_symbols b → HasSymbol r file s

-- an initializer leads into a carried section, or it doesn't
abbrev pub leads_into : Link → List (List ℕ) → Initializer → Bool
leads_into l noted row = is_section_target (target_with l noted (symbol_id row.file row.relocation.r_symbolnum))

abbrev pub LeadsInto : ResolvedRows → Initializer → Bool → Type 0
LeadsInto r row told = (l : Link) (noted : List (List ℕ)) → IsResolved l noted r → leads_into l noted row ≡ told

-- a personality is defined or imported, or it isn't
abbrev pub leads_somewhere : Link → List (List ℕ) → ℕ → Option PersonalityUse → Bool
leads_somewhere l noted file None = true
leads_somewhere l noted file (Some p) =
    is_defined (target_with l noted (symbol_id file p.relocation.r_symbolnum))
    || is_import (target_with l noted (symbol_id file p.relocation.r_symbolnum))

abbrev pub LeadsSomewhere : ResolvedRows → ℕ → Option PersonalityUse → Bool → Type 0
LeadsSomewhere r file used told = (l : Link) (noted : List (List ℕ)) → IsResolved l noted r → leads_somewhere l noted file used ≡ told

-- where a function starts, whatever section its entry stands in
abbrev pub start_key : UnwindEntry → StartKey
start_key e = record { file = e.file; section = e.start.section; offset = e.start.offset }

-- Two rows have one start, and the first is told.
pub record IsAgain (rows : List UnwindEntry) (fault : ConsumedFault) : Type 0 where
  pub place : ℕ
  pub later : ℕ
  pub before : place < later
  pub there : later < length rows
  pub row : UnwindEntry
  pub is : get_or rows place row ≡ row
  pub same : start_key (get_or rows later row) ≡ start_key row
  pub told : fault ≡ BadUnwind row.file row.section row.entry U6

abbrev pub IsAgainOrMemory : List UnwindEntry → ConsumedFault → Type 0
IsAgainOrMemory rows (BadInitializer f s offset) = IsAgain rows (BadInitializer f s offset)
IsAgainOrMemory rows (BadUnwind f s e rule) = IsAgain rows (BadUnwind f s e rule)
IsAgainOrMemory rows OutOfMemory = Unit {0}
