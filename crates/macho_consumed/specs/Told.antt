-- What is told of the consumed sections of a link: what is read of them, and which refusal stands.
use Rattle.std.specs.Prelude.{◌≡◌, ℕ, ◌+◌, ◌*◌, ◌%◌, ◌<◌, ◌≤◌, ◌==◌, true, All, Contains}
use Rattle.macho_model.specs.declared.rules.UnwindRule.{UnwindRule}
use Rattle.macho_model.specs.Links.{Link, SectionId, section_id, header_at}
use Rattle.macho_model.specs.Consumed.{initializer_section_fits, initializer_slot_fits, entry_count, whole_entries, keeps}
use Rattle.macho_model.specs.Faults.{IsBadInitializer, IsBadEntry}
use Rattle.macho_model.specs.Needs.{initializer_sections, unwind_sections, relocation_in, POINTER_SIZE}
use Rattle.macho_consumed.specs.declared.fault.ConsumedFault.{ConsumedFault}
use Rattle.macho_consumed.specs.declared.fault.ConsumedFault.TheVariants.{BadInitializer, BadUnwind, OutOfMemory}

-- A refusal stands: an initializer section is broken at the offset, or an unwind entry breaks the rule. Nothing is claimed of want
-- of memory.
abbrev pub IsStanding : Link → ConsumedFault → Type 0
IsStanding l (BadInitializer file section offset) =
    Contains (initializer_sections l) (section_id file section) × IsBadInitializer l (section_id file section) offset
IsStanding l (BadUnwind file section entry rule) =
    Contains (unwind_sections l) (section_id file section) × IsBadEntry l (section_id file section) entry rule
IsStanding l OutOfMemory = Unit {0}

-- Initializers keep their rules: the sections, their slots, and no relocation between slots.
pub record InitializersKeepRules (l : Link) : Type 0 where
  pub initializers : All (λ s. initializer_section_fits l s ≡ true) (initializer_sections l)
  pub slots : (s : SectionId) (slot : ℕ) → Contains (initializer_sections l) s → POINTER_SIZE * slot + POINTER_SIZE ≤ (header_at l s).size
      → initializer_slot_fits l s slot ≡ true
  pub placed : (s : SectionId) (r : ℕ) → Contains (initializer_sections l) s → r < (header_at l s).nreloc
      → ((relocation_in l s r).r_address % POINTER_SIZE == 0) ≡ true

-- Unwind entries keep theirs.
pub record EntriesKeepRules (l : Link) : Type 0 where
  pub whole : All (λ s. whole_entries l s ≡ true) (unwind_sections l)
  pub unwind : (s : SectionId) (e : ℕ) (rule : UnwindRule) → Contains (unwind_sections l) s → e < entry_count l s → keeps l s e rule ≡ true
