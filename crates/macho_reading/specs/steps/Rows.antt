-- Rows of consumed sections: which relocations they are of, and that what they use can be noted.
use Rattle.std.specs.Prelude.{◌≡◌, ℕ, true, List, [], ◌∷◌, Option, Some, None, All, IfSome}
use Rattle.macho_wire.specs.declared.relocations.RelocationInfo.{RelocationInfo}
use Rattle.macho_object.specs.Views.{FileBytes}
use Rattle.macho_model.specs.Grammar.{IsFile}
use Rattle.macho_model.specs.Links.{Input, Link, SectionId, section_id}
use Rattle.macho_model.specs.Needs.{relocation_in}
use Rattle.macho_model.specs.Uses.{Use}
use Rattle.macho_model.specs.Consumed.{is_plain_pointer}
use Rattle.macho_symbol_names.specs.Kept.{FileRows, Keeps}
use Rattle.macho_symbols.specs.Kept.{ResolvedRows, HasSymbol}
use Rattle.macho_consumed.specs.declared.rows.Initializer.{Initializer}
use Rattle.macho_consumed.specs.declared.rows.PersonalityUse.{PersonalityUse}
use Rattle.macho_consumed.specs.declared.rows.UnwindEntry.{UnwindEntry}
use Rattle.macho_consumed.specs.Laws.{section_of_initializer, use_of_initializer}
use Rattle.macho_consumed.specs.Rows.{initializer_rows, entry_rows}
use Rattle.macho_consumed.specs.Told.{InitializersKeepRules, EntriesKeepRules}
use Rattle.macho_reading.specs.declared.rows.Rows.{Rows}

-- files that are viewed keep the rules of their kind
abbrev pub IsWhole : Option FileBytes → Type 0
IsWhole view = IfSome view (λ f. IsFile f.is_dynamic f.bytes)

-- the use by an initializer
abbrev pub uses_of_row : Initializer → List Use
uses_of_row row = use_of_initializer row ∷ []

-- the relocation of a row is that of its number
abbrev pub IsInitializerOf : Link → Initializer → Type 0
IsInitializerOf l row = row.relocation ≡ relocation_in l (section_of_initializer row) row.number

abbrev pub IsPersonalityOf : Link → SectionId → Option PersonalityUse → Type 0
IsPersonalityOf l s None = Unit {0}
IsPersonalityOf l s (Some p) = p.relocation ≡ relocation_in l s p.number

abbrev pub IsEntryOf : Link → UnwindEntry → Type 0
IsEntryOf l e = IsPersonalityOf l (section_id e.file e.section) e.personality

-- A relocation is a plain pointer to a symbol that is kept.
pub record IsSymbolPointer (symbols : ResolvedRows) (file : ℕ) (rel : RelocationInfo) : Type 0 where
  pub form : is_plain_pointer rel ≡ true
  pub named : rel.r_extern ≡ true
  pub symbol : HasSymbol symbols file rel.r_symbolnum

abbrev pub IsUsable : ResolvedRows → Initializer → Type 0
IsUsable symbols row = IsSymbolPointer symbols row.file row.relocation

abbrev pub IsUsableIf : ResolvedRows → ℕ → Option PersonalityUse → Type 0
IsUsableIf symbols file None = Unit {0}
IsUsableIf symbols file (Some p) = IsSymbolPointer symbols file p.relocation

abbrev pub IsUsableEntry : ResolvedRows → UnwindEntry → Type 0
IsUsableEntry symbols e = IsUsableIf symbols e.file e.personality

-- What rows use can be noted.
pub record AreUsable (symbols : ResolvedRows) (rows : Rows) : Type 0 where
  pub initializers : All (IsUsable symbols) rows.initializers.items
  pub entries : All (IsUsableEntry symbols) rows.entries.items

-- These are the rows of a link.
pub record AreRows (l : Link) (rows : Rows) : Type 0 where
  pub initializers : rows.initializers.items ≡ initializer_rows l
  pub entries : rows.entries.items ≡ entry_rows l

-- Its consumed sections keep their rules.
pub record KeepRules (l : Link) : Type 0 where
  pub initializers : InitializersKeepRules l
  pub entries : EntriesKeepRules l

-- Rows of symbols are kept of some inputs.
pub record AreOfSome (files : List FileRows) : Type 0 where
  pub inputs : List Input
  pub keeps : Keeps inputs files
