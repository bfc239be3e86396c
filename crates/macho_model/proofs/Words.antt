-- Parts of the model's definitions by names of their own, so that a proof can speak of each. They compute to what the definitions say.
use Rattle.std.specs.Prelude.{ℕ, ◌-◌, ◌&&◌, if◌then◌else◌, Bool, Option, Some, None, option_map}
use Rattle.std.specs.Option.{unwrap_or}
use Rattle.macho_model.specs.declared.targets.Target.{Target}
use Rattle.macho_model.specs.declared.targets.Target.TheVariants as target
use Rattle.macho_model.specs.Links.{Link, SectionId, header_at, is_carried}
use Rattle.macho_model.specs.Resolution.{SymbolId, entry_at, section_of_symbol}
use Rattle.macho_model.specs.Needs.{relocation_in}
use Rattle.macho_model.specs.Targets.{target_of, target_of_relocation}
use Rattle.macho_model.specs.Fields.{has_subtrahend}
use Rattle.macho_model.specs.Consumed.{is_plain_pointer, is_section_target}

-- the place of a symbol in its section
abbrev pub place_of_symbol : Link → SymbolId → Target
place_of_symbol l s =
    target.Section s.file ((entry_at l s).n_sect - 1) ((entry_at l s).n_value - (header_at l (section_of_symbol l s)).addr)

-- the target of a relocation's symbol, and of the section that it names
abbrev pub target_of_symbol : Link → Option SymbolId → Target
target_of_symbol l s = unwrap_or (option_map (target_of l) s) target.None

abbrev pub target_of_section : Link → SectionId → Target
target_of_section l s = if is_carried (header_at l s) then target.Section s.file s.section 0 else target.None

-- the subtrahend of a pointer
abbrev pub subtrahend_of : Link → SectionId → ℕ → Option Target
subtrahend_of l s r = if has_subtrahend l s r then Some (target_of_relocation l s (r - 1)) else None

-- an initializer's relocation
abbrev pub initializer_relocation_fits : Link → SectionId → ℕ → Bool
initializer_relocation_fits l s r =
    is_plain_pointer (relocation_in l s r) && (relocation_in l s r).r_extern && is_section_target (target_of_relocation l s r)
