-- The tests of the rules on records, of a record by its number.
use Rattle.std.specs.Prelude.{ℕ, Bool, List}
use Rattle.macho_model.specs.declared.rules.ObjectRule.TheVariants.{O5, O6, O7, O8, O9, O10, O11, O12, O13, O14}
use Rattle.macho_model.specs.Objects.{section_at, symbol_at, relocation_at}
use Rattle.macho_model.specs.ObjectRules.{section_keeps, symbol_keeps, relocation_keeps}

abbrev pub data_inside : List ℕ → ℕ → Bool
data_inside b k = section_keeps b O6 (section_at b k)

abbrev pub exponent_fits : List ℕ → ℕ → Bool
exponent_fits b k = section_keeps b O7 (section_at b k)

abbrev pub relocations_inside : List ℕ → ℕ → Bool
relocations_inside b k = section_keeps b O10 (section_at b k)

abbrev pub thread_local_in_data : List ℕ → ℕ → Bool
thread_local_in_data b k = section_keeps b O11 (section_at b k)

abbrev pub zerofill_unrelocated : List ℕ → ℕ → Bool
zerofill_unrelocated b k = section_keeps b O12 (section_at b k)

abbrev pub symbol_section_exists : List ℕ → ℕ → Bool
symbol_section_exists b k = symbol_keeps b O5 (symbol_at b k)

abbrev pub value_in_section : List ℕ → ℕ → Bool
value_in_section b k = symbol_keeps b O8 (symbol_at b k)

abbrev pub name_ends : List ℕ → ℕ → Bool
name_ends b k = symbol_keeps b O9 (symbol_at b k)

abbrev pub global_has_name : List ℕ → ℕ → Bool
global_has_name b k = symbol_keeps b O13 (symbol_at b k)

abbrev pub common_fits : List ℕ → ℕ → Bool
common_fits b k = symbol_keeps b O14 (symbol_at b k)

abbrev pub relocation_number_exists : List ℕ → ℕ → ℕ → Bool
relocation_number_exists b k r = relocation_keeps b O5 (section_at b k) (relocation_at b k r)

abbrev pub field_inside : List ℕ → ℕ → ℕ → Bool
field_inside b k r = relocation_keeps b O10 (section_at b k) (relocation_at b k r)
