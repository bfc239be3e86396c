-- What is to be placed, in plain lists, and whose plan it is.
use Rattle.std.specs.Prelude.{◌≡◌, ℕ, ◌==◌, ◌||◌, Bool, true, false, List, [], ◌∷◌, ◌++◌, map, All, ◌%◌}
use Rattle.std.specs.Str.{bytes_eq}
use Rattle.std.specs.List.{enumerate_from}
use Rattle.macho_records.specs.Segments.{name_field, text_of}
use Rattle.macho_records.specs.declared.constants.TheConstants.{S_THREAD_LOCAL_REGULAR, S_THREAD_LOCAL_ZEROFILL, S_THREAD_LOCAL_VARIABLES}
use Rattle.macho_model.specs.Segments.{PAGEZERO, LINKEDIT, DATA}
use Rattle.macho_records.specs.Symbols.{common_exponent_of, common_size_of}
use Rattle.macho_model.specs.declared.targets.Target.{Target}
use Rattle.macho_model.specs.declared.targets.Target.TheVariants as target
use Rattle.macho_model.specs.Links.{Link, SectionId, header_at, carried_of}
use Rattle.macho_model.specs.Resolution.{SymbolId, entry_at, chosen_commons}
use Rattle.macho_model.specs.Targets.{slots_of, stubs_of, slot_number}
use Rattle.macho_layout.specs.declared.spec.SectionSpec.{SectionSpec}
use Rattle.macho_layout.specs.declared.spec.CommonSpec.{CommonSpec}
use Rattle.macho_layout.specs.declared.spec.StubSpec.{StubSpec}

-- A plan: carried sections by file, then section, commons by number, slots and stubs by number.
pub record Planning : Type 0 where
  pub executable : Bool
  pub sections : List SectionSpec
  pub commons : List CommonSpec
  pub slots : List Target
  pub stubs : List StubSpec

-- a plan of nothing
abbrev pub new_plan : Bool → Planning
new_plan executable = record { executable = executable; sections = []; commons = []; slots = []; stubs = [] }

abbrev pub with_section : Planning → SectionSpec → Planning
with_section p s = record p { sections = p.sections ++ s ∷ [] }

abbrev pub with_common : Planning → CommonSpec → Planning
with_common p c = record p { commons = p.commons ++ c ∷ [] }

abbrev pub with_slot : Planning → Target → Planning
with_slot p t = record p { slots = p.slots ++ t ∷ [] }

abbrev pub with_stub : Planning → StubSpec → Planning
with_stub p s = record p { stubs = p.stubs ++ s ∷ [] }

-- a carried section of a link, as a plan has it
abbrev pub spec_of : Link → SectionId → SectionSpec
spec_of l s = record {
  file = s.file;
  section = s.section;
  segment = record { 0 = name_field (header_at l s).segname };
  name = (header_at l s).sectname;
  flags = (header_at l s).flags;
  align = (header_at l s).align;
  size = (header_at l s).size;
}

-- a chosen common, by its number
abbrev pub common_spec_of : Link → ℕ × SymbolId → CommonSpec
common_spec_of l c = record { id = c.0; size = common_size_of (entry_at l c.1); align = common_exponent_of (entry_at l c.1) }

-- THE plan of a link.
pub record IsPlanOf (l : Link) (p : Planning) : Type 0 where
  pub executable : p.executable ≡ l.executable
  pub sections : p.sections ≡ map (spec_of l) (carried_of l)
  pub commons : p.commons ≡ map (common_spec_of l) (enumerate_from 0 (chosen_commons l))
  pub slots : p.slots ≡ slots_of l
  pub stubs : map (λ s. target.Import s.import) p.stubs ≡ stubs_of l
  pub stub_slots : All (λ s. s.slot ≡ slot_number l (target.Import s.import)) p.stubs

-- what a section's segment may be: none of the linker's own, and `__DATA` where it has thread-local variables or their
-- initial values
abbrev pub is_thread_local : ℕ → Bool
is_thread_local type = type == S_THREAD_LOCAL_REGULAR || type == S_THREAD_LOCAL_ZEROFILL || type == S_THREAD_LOCAL_VARIABLES

pub record MayStand (s : SectionSpec) : Type 0 where
  pub not_zero_page : bytes_eq (text_of s.segment) PAGEZERO ≡ false
  pub not_tables : bytes_eq (text_of s.segment) LINKEDIT ≡ false
  pub thread_local : is_thread_local (s.flags % 256) ≡ true → bytes_eq (text_of s.segment) DATA ≡ true
