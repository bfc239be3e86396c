-- The inputs of the bound, entry by entry.
use Rattle.std.specs.Prelude.{ℕ, Option, Some, None, is_some}
use Rattle.macho_model.specs.Links.{Link}
use Rattle.macho_model.specs.Targets.{target_of, slot_number}
use Rattle.macho_symbols.specs.Kept.{symbol_id}
use Rattle.macho_unwind_pages.specs.declared.entries.UnwindInput.{UnwindInput}
use Rattle.macho_consumed.specs.declared.rows.PersonalityUse.{PersonalityUse}
use Rattle.macho_consumed.specs.declared.rows.UnwindEntry.{UnwindEntry}

-- the number of a personality's slot, by its symbol
abbrev pub number_of_target : Link → ℕ → Option PersonalityUse → Option ℕ
number_of_target l file None = None
number_of_target l file (Some p) = Some (slot_number l (target_of l (symbol_id file p.relocation.r_symbolnum)))

abbrev pub input_by : Link → UnwindEntry → UnwindInput
input_by l e = record { encoding = e.encoding; personality = number_of_target l e.file e.personality; lsda = is_some e.lsda }
