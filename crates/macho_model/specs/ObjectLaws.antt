-- What an object and a dynamic library keep, rule by rule: they break no rule exactly where each section, symbol, relocation and
-- command passes each test. Each law is the contract of a function of `src/laws.rt`.
use Rattle.std.specs.Prelude.{◌≡◌, ℕ, ◌<◌, true, List}
use Rattle.macho_records.specs.declared.constants.TheConstants.{LC_ID_DYLIB, LC_SEGMENT_64, LC_SYMTAB, MH_DYLIB, MH_OBJECT}
use Rattle.macho_model.specs.declared.rules.ObjectRule.{ObjectRule}
use Rattle.macho_model.specs.declared.rules.ObjectRule.TheVariants.{O5, O6, O7, O8, O9, O10, O11, O12, O13, O14}
use Rattle.macho_model.specs.Commands.{numbered, command_fits}
use Rattle.macho_model.specs.Objects.{num_sections, section_at, num_symbols, symbol_at, relocation_at}
use Rattle.macho_model.specs.ObjectRules.{head_fits, needed_in_object, needed_in_dylib, has_one, tables_inside, section_keeps, symbol_keeps, relocation_keeps, path_ends}
use Rattle.macho_model.specs.Grammar.{EachCommand, AreWhole, IsObject, IsDylib}

-- each section, symbol or relocation keeps a rule
abbrev pub EachSection : List ℕ → ObjectRule → Type 0
EachSection b rule = (k : ℕ) → k < num_sections b → section_keeps b rule (section_at b k) ≡ true

abbrev pub EachSymbol : List ℕ → ObjectRule → Type 0
EachSymbol b rule = (k : ℕ) → k < num_symbols b → symbol_keeps b rule (symbol_at b k) ≡ true

abbrev pub EachRelocation : List ℕ → ObjectRule → Type 0
EachRelocation b rule =
    (k r : ℕ) → k < num_sections b → r < (section_at b k).nreloc → relocation_keeps b rule (section_at b k) (relocation_at b k r) ≡ true

-- The rules of objects: one field for each rule.
pub record KeepsObjectRules (b : List ℕ) : Type 0 where
  pub o1 : head_fits MH_OBJECT b ≡ true
  pub o2 : AreWhole b (command_fits (needed_in_object b) b)
  pub o3 : (has_one LC_SEGMENT_64 b ≡ true) × (has_one LC_SYMTAB b ≡ true)
  pub o4 : tables_inside b ≡ true
  pub o5 : EachSymbol b O5 × EachRelocation b O5
  pub o6 : EachSection b O6
  pub o7 : EachSection b O7
  pub o8 : EachSymbol b O8
  pub o9 : EachSymbol b O9
  pub o10 : EachSection b O10 × EachRelocation b O10
  pub o11 : EachSection b O11
  pub o12 : EachSection b O12
  pub o13 : EachSymbol b O13
  pub o14 : EachSymbol b O14

-- The rules of dynamic libraries.
pub record KeepsDylibRules (b : List ℕ) : Type 0 where
  pub o1 : head_fits MH_DYLIB b ≡ true
  pub o2 : AreWhole b (command_fits needed_in_dylib b)
  pub o3 : (has_one LC_ID_DYLIB b ≡ true) × (has_one LC_SYMTAB b ≡ true)
  pub o4 : tables_inside b ≡ true
  pub o9 : EachSymbol b O9 × EachCommand (numbered LC_ID_DYLIB b) (path_ends b)
  pub o13 : EachSymbol b O13

-- an object keeps the rules of objects, and what keeps them is an object
abbrev pub ObjectsKeepRules : Type 0
ObjectsKeepRules = (b : List ℕ) → IsObject b → KeepsObjectRules b

abbrev pub KeepersAreObjects : Type 0
KeepersAreObjects = (b : List ℕ) → KeepsObjectRules b → IsObject b

-- and the same of dynamic libraries
abbrev pub DylibsKeepRules : Type 0
DylibsKeepRules = (b : List ℕ) → IsDylib b → KeepsDylibRules b

abbrev pub KeepersAreDylibs : Type 0
KeepersAreDylibs = (b : List ℕ) → KeepsDylibRules b → IsDylib b
