-- What a relocation notes and leads to, by what it says itself: by its symbol, or by the number of a section.
use Rattle.std.specs.Prelude.{ℕ, ◌≡◌, ◌-◌, if◌then◌else◌, Bool, true, false, List}
use Rattle.macho_records.specs.declared.header.SectionHeader.{SectionHeader}
use Rattle.macho_wire.specs.declared.relocations.RelocationInfo.{RelocationInfo}
use Rattle.macho_model.specs.declared.targets.Target.{Target}
use Rattle.macho_model.specs.declared.targets.Target.TheVariants as target
use Rattle.macho_model.specs.Objects.{section_at}
use Rattle.macho_model.specs.Links.{Link, is_carried}
use Rattle.macho_model.specs.Resolution.{SymbolId}
use Rattle.macho_model.specs.Uses.{target_with}
use Rattle.macho_symbol_names.specs.declared.fault.SymbolFault.{SymbolFault}
use Rattle.macho_symbols.specs.Kept.{symbol_id}
use Rattle.macho_symbols.specs.Told.{IsDefined, IsUndefined, noting}
use Rattle.macho_answer.specs.declared.fault.LinkError.{LinkError}
use Rattle.macho_answer.specs.Errors.{error_of}

-- the start of a section with a header, if that is carried
abbrev pub carried_start : ℕ → ℕ → SectionHeader → Target
carried_start file section h = if is_carried h then target.Section file section 0 else target.None

-- the imports that are noted then
abbrev pub noting_by : Link → List (List ℕ) → ℕ → RelocationInfo → List (List ℕ)
noting_by l noted file rel = if rel.r_extern then noting l noted (symbol_id file rel.r_symbolnum) else noted

-- where it leads
abbrev pub lead_by : Link → List (List ℕ) → List ℕ → ℕ → RelocationInfo → Target
lead_by l noted bytes file rel =
    if rel.r_extern then target_with l noted (symbol_id file rel.r_symbolnum)
    else carried_start file (rel.r_symbolnum - 1) (section_at bytes (rel.r_symbolnum - 1))

-- the symbol is found; or a refusal is that nothing defines it
abbrev pub FoundIf : Link → SymbolId → Bool → Type 0
FoundIf l s true = IsDefined l s
FoundIf l s false = Unit {0}

abbrev pub IsFoundBy : Link → ℕ → RelocationInfo → Type 0
IsFoundBy l file rel = FoundIf l (symbol_id file rel.r_symbolnum) rel.r_extern

-- a refusal is one of symbols: that a symbol of an extern relocation has no definition
pub record IsLostBy (l : Link) (file : ℕ) (rel : RelocationInfo) (e : LinkError) : Type 0 where
  pub fault : SymbolFault
  pub is : e ≡ error_of fault
  pub extern : rel.r_extern ≡ true
  pub undefined : IsUndefined l (symbol_id file rel.r_symbolnum) fault
