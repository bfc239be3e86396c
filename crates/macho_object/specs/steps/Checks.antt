-- The rules of one section, one symbol and one relocation, together: that a record keeps them all, or breaks this one.
use Rattle.std.specs.Prelude.{◌≡◌, ℕ, ◌<◌, Bool, true, false, List, drop, nat_lt, nat_le, ◌==◌, ◌&&◌, ◌||◌, if◌then◌else◌}
use Rattle.macho_model.specs.steps.RecordTests.{symbol_section_exists, relocation_number_exists, data_inside, exponent_fits, value_in_section, name_ends, relocations_inside, field_inside, thread_local_in_data, zerofill_unrelocated, global_has_name, common_fits}
use Rattle.macho_records.specs.declared.constants.TheConstants.{ARM64_RELOC_ADDEND}
use Rattle.macho_records.specs.RelocationInfo.{RelocationInfo}
use Rattle.macho_model.specs.Objects.{num_sections, section_at, num_symbols}
use Rattle.macho_model.specs.declared.rules.ObjectRule.{ObjectRule}
use Rattle.macho_model.specs.declared.rules.ObjectRule.TheVariants.{O5, O6, O7, O8, O9, O10, O11, O12, O13, O14}
use Rattle.macho_model.specs.ObjectRules.{has_nul}

-- A section keeps the rules of sections.
pub record SectionFits (b : List ℕ) (k : ℕ) : Type 0 where
  pub data_fits : data_inside b k ≡ true
  pub exponent : exponent_fits b k ≡ true
  pub relocations : relocations_inside b k ≡ true
  pub thread_local : thread_local_in_data b k ≡ true
  pub zerofill : zerofill_unrelocated b k ≡ true

-- each of so many sections does
abbrev pub SectionsFit : List ℕ → ℕ → Type 0
SectionsFit b count = (k : ℕ) → k < count → SectionFits b k

-- a section breaks a rule
abbrev pub SectionBreaks : List ℕ → ℕ → ObjectRule → Type 0
SectionBreaks b k O6 = data_inside b k ≡ false
SectionBreaks b k O7 = exponent_fits b k ≡ false
SectionBreaks b k O10 = relocations_inside b k ≡ false
SectionBreaks b k O11 = thread_local_in_data b k ≡ false
SectionBreaks b k O12 = zerofill_unrelocated b k ≡ false
SectionBreaks b k rule = ⊥

-- what a relocation names exists; an addend that is not extern names nothing
abbrev pub number_exists : List ℕ → RelocationInfo → Bool
number_exists b r =
    if r.r_extern then nat_lt r.r_symbolnum (num_symbols b)
    else (r.r_type == ARM64_RELOC_ADDEND) || (nat_le 1 r.r_symbolnum && nat_le r.r_symbolnum (num_sections b))

-- A relocation keeps the rules of relocations.
pub record RelocationFits (b : List ℕ) (k r : ℕ) : Type 0 where
  pub number : relocation_number_exists b k r ≡ true
  pub field : field_inside b k r ≡ true

-- each relocation of a section does
abbrev pub RelocationsFit : List ℕ → ℕ → Type 0
RelocationsFit b k = (r : ℕ) → r < (section_at b k).nreloc → RelocationFits b k r

-- a relocation breaks a rule
abbrev pub RelocationBreaks : List ℕ → ℕ → ℕ → ObjectRule → Type 0
RelocationBreaks b k r O5 = relocation_number_exists b k r ≡ false
RelocationBreaks b k r O10 = field_inside b k r ≡ false
RelocationBreaks b k r rule = ⊥

-- A symbol keeps the rules on names.
pub record NameFits (b : List ℕ) (k : ℕ) : Type 0 where
  pub ends : name_ends b k ≡ true
  pub global : global_has_name b k ≡ true

-- each symbol does
abbrev pub NamesFit : List ℕ → Type 0
NamesFit b = (k : ℕ) → k < num_symbols b → NameFits b k

-- a symbol breaks a rule on names
abbrev pub NameBreaks : List ℕ → ℕ → ObjectRule → Type 0
NameBreaks b k O9 = name_ends b k ≡ false
NameBreaks b k O13 = global_has_name b k ≡ false
NameBreaks b k rule = ⊥

-- A symbol of a section keeps the rules on its section and its address.
pub record AddressFits (b : List ℕ) (k : ℕ) : Type 0 where
  pub section : symbol_section_exists b k ≡ true
  pub value : value_in_section b k ≡ true

-- a symbol breaks a rule on its section or its address
abbrev pub AddressBreaks : List ℕ → ℕ → ObjectRule → Type 0
AddressBreaks b k O5 = symbol_section_exists b k ≡ false
AddressBreaks b k O8 = value_in_section b k ≡ false
AddressBreaks b k rule = ⊥

-- An object's symbol keeps the rules of symbols.
pub record SymbolFits (b : List ℕ) (k : ℕ) : Type 0 where
  pub address : AddressFits b k
  pub name : NameFits b k
  pub common : common_fits b k ≡ true

-- each symbol does
abbrev pub SymbolsFit : List ℕ → Type 0
SymbolsFit b = (k : ℕ) → k < num_symbols b → SymbolFits b k

-- an object's symbol breaks a rule
abbrev pub SymbolBreaks : List ℕ → ℕ → ObjectRule → Type 0
SymbolBreaks b k O5 = symbol_section_exists b k ≡ false
SymbolBreaks b k O8 = value_in_section b k ≡ false
SymbolBreaks b k O9 = name_ends b k ≡ false
SymbolBreaks b k O13 = global_has_name b k ≡ false
SymbolBreaks b k O14 = common_fits b k ≡ false
SymbolBreaks b k rule = ⊥

-- A text that begins in these strings ends there exactly where it begins in front of this place.
pub record NamesEnd (strings : List ℕ) (end : ℕ) : Type 0 where
  pub test : (n : ℕ) → has_nul (drop n strings) ≡ nat_lt n end
