-- When bytes are a relocatable object or a dynamic library that this linker takes: the tests of `ObjectRules`, asked of
-- each record. A refusal names a rule and the place of a record that fails its test.
use Rattle.std.specs.Prelude.{◌≡◌, ℕ, ◌<◌, ◌≤◌, ◌⊎◌, Bool, true, false, List, [], All}
use Rattle.macho_model.specs.declared.rules.ObjectRule.{ObjectRule}
use Rattle.macho_model.specs.declared.rules.ObjectRule.TheVariants.{O1, O2, O3, O4, O9, O10, O13}
use Rattle.macho_records.specs.declared.constants.TheConstants.{LC_ID_DYLIB, LC_SEGMENT_64, LC_SYMTAB, MH_DYLIB, MH_OBJECT}
use Rattle.macho_model.specs.Lists.{IsNumber}
use Rattle.macho_model.specs.Commands.{Command, commands_of, numbered, place_of, command_fits}
use Rattle.macho_model.specs.Links.{Link, Object}
use Rattle.macho_model.specs.Objects.{num_sections, section_place, section_at, num_symbols, symbol_place, symbol_at, relocation_place, relocation_at}
use Rattle.macho_model.specs.ObjectRules.{head_fits, commands_inside, needed_in_object, needed_in_dylib, has_one, tables_inside, section_keeps, symbol_keeps, relocation_keeps, path_ends}

-- a test holds of each command
abbrev pub EachCommand : List Command → (Command → Bool) → Type 0
EachCommand cs test = All (λ c. test c ≡ true) cs

-- the load commands are whole; where they aren't, nothing that they tell of is looked at
abbrev pub AreWhole : List ℕ → (Command → Bool) → Type 0
AreWhole b fits = (commands_inside b ≡ true) × EachCommand (commands_of b) fits

-- Some section, symbol, relocation or command whose record stands at a place fails a test. Where a table isn't whole, its records
-- aren't looked at.
abbrev pub SectionFails : List ℕ → ObjectRule → ℕ → Type 0
SectionFails b rule place = (k : ℕ) × (k < num_sections b) × (place ≡ section_place b k) × (section_keeps b rule (section_at b k) ≡ false)

abbrev pub SymbolFails : List ℕ → ObjectRule → ℕ → Type 0
SymbolFails b rule place =
    (tables_inside b ≡ true) × (k : ℕ) × (k < num_symbols b) × (place ≡ symbol_place b k) × (symbol_keeps b rule (symbol_at b k) ≡ false)

abbrev pub RelocationFails : List ℕ → ObjectRule → ℕ → Type 0
RelocationFails b rule place =
    (k : ℕ) × (r : ℕ) × (k < num_sections b) × (section_keeps b O10 (section_at b k) ≡ true) × (r < (section_at b k).nreloc)
    × (place ≡ relocation_place b k r) × (relocation_keeps b rule (section_at b k) (relocation_at b k r) ≡ false)

abbrev pub CommandFails : List Command → ℕ → (Command → Bool) → Type 0
CommandFails cs place test =
    (k : ℕ) × (c : Command) × IsNumber cs k c × (place ≡ c.at) × (test c ≡ false)

-- there is no command of a number, told at place 0, or one behind the first, told at its place
abbrev pub IsNotOne : ℕ → List ℕ → ℕ → Type 0
IsNotOne n b place =
    ((numbered n b ≡ []) × (place ≡ 0))
    ⊎ ((k : ℕ) × (c : Command) × (1 ≤ k) × IsNumber (numbered n b) k c × (place ≡ c.at))

-- A record of an object breaks a rule: it fails that rule's test.
abbrev pub ObjectRecordBreaks : List ℕ → ObjectRule → ℕ → Type 0
ObjectRecordBreaks b O4 place = (place ≡ place_of LC_SYMTAB b) × (tables_inside b ≡ false)
ObjectRecordBreaks b rule place = SectionFails b rule place ⊎ SymbolFails b rule place ⊎ RelocationFails b rule place

-- An object breaks a rule at a place: the header, a command, or a record that whole commands tell of. Where one of the two that tell of
-- records doesn't stand once, no record is looked at.
abbrev pub ObjectBreaks : List ℕ → ObjectRule → ℕ → Type 0
ObjectBreaks b O1 place = (place ≡ 0) × (head_fits MH_OBJECT b ≡ false)
ObjectBreaks b O2 place =
    ((place ≡ 0) × (commands_inside b ≡ false)) ⊎ CommandFails (commands_of b) place (command_fits (needed_in_object b) b)
ObjectBreaks b O3 place = AreWhole b (command_fits (needed_in_object b) b) × (IsNotOne LC_SEGMENT_64 b place ⊎ IsNotOne LC_SYMTAB b place)
ObjectBreaks b rule place =
    AreWhole b (command_fits (needed_in_object b) b) × ((has_one LC_SEGMENT_64 b ≡ true) × (has_one LC_SYMTAB b ≡ true))
    × ObjectRecordBreaks b rule place

-- The bytes are a relocatable object: no rule is broken, at any place.
pub record IsObject (b : List ℕ) : Type 0 where
  pub unbroken : (rule : ObjectRule) (place : ℕ) → ObjectBreaks b rule place → ⊥

-- A record of a dynamic library breaks a rule.
abbrev pub DylibRecordBreaks : List ℕ → ObjectRule → ℕ → Type 0
DylibRecordBreaks b O4 place = (place ≡ place_of LC_SYMTAB b) × (tables_inside b ≡ false)
DylibRecordBreaks b O9 place = SymbolFails b O9 place ⊎ CommandFails (numbered LC_ID_DYLIB b) place (path_ends b)
DylibRecordBreaks b O13 place = SymbolFails b O13 place
DylibRecordBreaks b rule place = ⊥

-- A dynamic library breaks a rule at a place.
abbrev pub DylibBreaks : List ℕ → ObjectRule → ℕ → Type 0
DylibBreaks b O1 place = (place ≡ 0) × (head_fits MH_DYLIB b ≡ false)
DylibBreaks b O2 place = ((place ≡ 0) × (commands_inside b ≡ false)) ⊎ CommandFails (commands_of b) place (command_fits needed_in_dylib b)
DylibBreaks b O3 place = AreWhole b (command_fits needed_in_dylib b) × (IsNotOne LC_ID_DYLIB b place ⊎ IsNotOne LC_SYMTAB b place)
DylibBreaks b rule place =
    AreWhole b (command_fits needed_in_dylib b) × ((has_one LC_ID_DYLIB b ≡ true) × (has_one LC_SYMTAB b ≡ true))
    × DylibRecordBreaks b rule place

-- The bytes are a dynamic library. Its segments are not read, so no rule speaks of sections.
pub record IsDylib (b : List ℕ) : Type 0 where
  pub unbroken : (rule : ObjectRule) (place : ℕ) → DylibBreaks b rule place → ⊥

-- A file of a kind (a dynamic library or not) breaks a rule at a place.
abbrev pub Breaks : Bool → List ℕ → ObjectRule → ℕ → Type 0
Breaks false b rule place = ObjectBreaks b rule place
Breaks true b rule place = DylibBreaks b rule place

-- an object, or a dynamic library
abbrev pub IsFile : Bool → List ℕ → Type 0
IsFile false b = IsObject b
IsFile true b = IsDylib b

-- the objects of a link keep the rules of objects
abbrev pub ObjectsAreRead : Link → Type 0
ObjectsAreRead l = (file : ℕ) (b : List ℕ) → IsNumber l.inputs file (Object b) → IsObject b
