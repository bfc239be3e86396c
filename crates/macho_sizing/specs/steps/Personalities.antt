-- The personality function that a row names, if it names one.
use Rattle.std.specs.Prelude.{ℕ, Option, Some, None}
use Rattle.macho_model.specs.declared.targets.Target.{Target}
use Rattle.macho_model.specs.Links.{Link}
use Rattle.macho_model.specs.Targets.{target_of}
use Rattle.macho_symbols.specs.Kept.{symbol_id}
use Rattle.macho_consumed.specs.declared.rows.PersonalityUse.{PersonalityUse}
use Rattle.macho_consumed.specs.declared.rows.UnwindEntry.{UnwindEntry}

abbrev pub personality_named : Link → ℕ → Option PersonalityUse → Option Target
personality_named l file None = None
personality_named l file (Some p) = Some (target_of l (symbol_id file p.relocation.r_symbolnum))

abbrev pub personality_of : Link → UnwindEntry → Option Target
personality_of l e = personality_named l e.file e.personality
