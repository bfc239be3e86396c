-- The parts of validity: what a link keeps where no refusal stands, each field fits and the sum is small. Each is said of the link alone,
-- beside the refusals, so that a refusal which stands too often, or not often enough, is seen.
use Rattle.std.specs.Prelude.{◌≡◌, ℕ, ◌+◌, ◌*◌, ◌%◌, ◌<◌, ◌≤◌, ◌==◌, ◌⊎◌, true, false, List, ◌++◌, filter, length, All, Contains, is_some, ◌^◌}
use Rattle.macho_model.specs.declared.rules.UnwindRule.{UnwindRule}
use Rattle.macho_model.specs.declared.targets.Limit.{Limit}
use Rattle.macho_model.specs.declared.placed.Counts.{Counts}
use Rattle.macho_model.specs.ExportLists.{plain_entries}
use Rattle.macho_model.specs.Links.{Link, SectionId, header_at, carried_of}
use Rattle.macho_model.specs.Resolution.{SymbolId, name_at, strong_of, definition_of}
use Rattle.macho_model.specs.Needs.{initializer_sections, unwind_sections, relocation_in, POINTER_SIZE, carried_relocations, initializer_relocations, personality_relocations, globals_used}
use Rattle.macho_model.specs.Fields.{fields_of}
use Rattle.macho_model.specs.WrittenSum.{written_sum_of}
use Rattle.macho_model.specs.Stands.{kind_of}
use Rattle.macho_model.specs.Rows.{is_supported, share_byte, are_pair}
use Rattle.macho_model.specs.Consumed.{is_plain_pointer, initializer_section_fits, initializer_slot_fits, entry_count, whole_entries, keeps}
use Rattle.macho_model.specs.Limits.{limited}
use Rattle.macho_model.specs.Faults.{entry_is_defined}
use Rattle.macho_model.specs.Valid.{field_fits}

-- the greatest written sum of a valid link
abbrev pub VALID_SUM : ℕ
VALID_SUM = 64 * 2 ^ 20

-- The parts of validity.
pub data ValidPart : Type 0 where
  Single : ValidPart
  Used : ValidPart
  Listed : ValidPart
  Begun : ValidPart
  Supported : ValidPart
  NonOverlapping : ValidPart
  Fitting : ValidPart
  Initializers : ValidPart
  Slots : ValidPart
  AtSlots : ValidPart
  Whole : ValidPart
  Unwind : ValidPart
  Limits : ValidPart
  Sum : ValidPart

-- the global symbols that relocations name: all of carried sections, and those of consumed sections that have the form that is read
abbrev pub symbols_read : Link → List SymbolId
symbols_read l =
    globals_used l (carried_relocations l
    ++ filter (λ u. is_plain_pointer (relocation_in l u.0 u.1)) (initializer_relocations l ++ personality_relocations l))

abbrev pub ValidKeeps : Link → Counts → ValidPart → Type 0
ValidKeeps l counts Single = (name : List ℕ) → length (strong_of l name) ≤ 1
ValidKeeps l counts Used = All (λ s. is_some (definition_of l (name_at l s)) ≡ true) (symbols_read l)
ValidKeeps l counts Listed = All (λ name. is_some (definition_of l name) ≡ true) (plain_entries l.export_lists)
ValidKeeps l counts Begun = entry_is_defined l ≡ true
ValidKeeps l counts Supported = (s : SectionId) (r : ℕ) → Contains (carried_of l) s → r < (header_at l s).nreloc → is_supported l s r ≡ true
ValidKeeps l counts NonOverlapping =
    (s : SectionId) (q r : ℕ) → Contains (carried_of l) s → q < r → r < (header_at l s).nreloc → (share_byte l s q r ≡ false)
    ⊎ (are_pair l s q r ≡ true)
ValidKeeps l counts Fitting =
    (s : SectionId) → Contains (carried_of l) s → All (λ f. field_fits l s f (kind_of f.type (is_some f.subtrahend)) ≡ true) (fields_of l s)
ValidKeeps l counts Initializers = All (λ s. initializer_section_fits l s ≡ true) (initializer_sections l)
ValidKeeps l counts Slots =
    (s : SectionId) (slot : ℕ) → Contains (initializer_sections l) s → POINTER_SIZE * slot + POINTER_SIZE ≤ (header_at l s).size
    → initializer_slot_fits l s slot ≡ true
ValidKeeps l counts AtSlots =
    (s : SectionId) (r : ℕ) → Contains (initializer_sections l) s → r < (header_at l s).nreloc
    → ((relocation_in l s r).r_address % POINTER_SIZE == 0) ≡ true
ValidKeeps l counts Whole = All (λ s. whole_entries l s ≡ true) (unwind_sections l)
ValidKeeps l counts Unwind =
    (s : SectionId) (e : ℕ) (rule : UnwindRule) → Contains (unwind_sections l) s → e < entry_count l s → keeps l s e rule ≡ true
ValidKeeps l counts Limits = (what : Limit) → (limited l counts what).0 ≤ (limited l counts what).1
ValidKeeps l counts Sum = written_sum_of l counts ≤ VALID_SUM
