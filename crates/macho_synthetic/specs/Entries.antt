-- Entries of unwind information at their addresses, by what is looked up.
use Rattle.std.specs.Prelude.{ℕ, ◌+◌, ◌^◌, ◌<◌, ◌≤◌, List, length, All, IfSome, option_map}
use Rattle.std.specs.List.{position_or_len}
use Rattle.macho_model.specs.declared.targets.Target.{Target}
use Rattle.macho_model.specs.Targets.{same_target}
use Rattle.macho_unwind_pages.specs.declared.entries.Personality.{Personality}
use Rattle.macho_unwind_pages.specs.declared.entries.ResolvedUnwindInfo.{ResolvedUnwindInfo}
use Rattle.macho_unwind_pages.specs.Entries.{MOST_PERSONALITIES, AreEntries, inputs_of, ids_of}
use Rattle.macho_consumed.specs.declared.rows.SectionPlace.{SectionPlace}
use Rattle.macho_consumed.specs.declared.rows.PersonalityUse.{PersonalityUse}
use Rattle.macho_consumed.specs.declared.rows.UnwindEntry.{UnwindEntry}
use Rattle.macho_fields.specs.Looks.{Look}

-- the symbol of an entry's personality function is known
abbrev pub KnowsPersonality : (ℕ → ℕ → Type 0) → UnwindEntry → Type 0
KnowsPersonality has_symbol e = IfSome e.personality (λ used. has_symbol e.file used.relocation.r_symbolnum)

-- the address of a place in a section of a file
abbrev pub address_at : Look → ℕ → SectionPlace → ℕ
address_at look file place = look.section file place.section + place.offset

-- what a personality's symbol leads to
abbrev pub target_used : Look → ℕ → PersonalityUse → Target
target_used look file used = look.target file used.relocation.r_symbolnum

-- a personality function is named by the number of its slot, and found through the slot
abbrev pub personality_at : Look → List Target → ℕ → PersonalityUse → Personality
personality_at look slots file used = record {
  id = position_or_len (same_target (target_used look file used)) slots;
  slot = look.slot (target_used look file used);
}

-- an entry at its address
abbrev pub resolved_row : Look → List Target → UnwindEntry → ResolvedUnwindInfo
resolved_row look slots e = record {
  start = address_at look e.file e.start;
  length = e.length;
  encoding = e.encoding;
  personality = option_map (personality_at look slots e.file) e.personality;
  lsda = option_map (address_at look e.file) e.lsda;
}

-- Entries are such that unwind information can be made of them, but for offsets that pass 32 bits.
pub record MayBeBuilt (base : ℕ) (entries : List ResolvedUnwindInfo) : Type 0 where
  -- starts are distinct, nothing stands below the base, one personality has one slot, its bits of encodings are clear
  pub are : AreEntries base entries
  -- language data has an address of 64 bits
  pub lsdas : All (λ e. IfSome e.lsda (λ address. address < 2 ^ 64)) entries
  -- and there are no more personality functions than the format numbers
  pub few : length (ids_of (inputs_of entries)) ≤ MOST_PERSONALITIES
