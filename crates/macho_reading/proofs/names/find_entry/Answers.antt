use Rattle.std.proofs.Common.{ap, sym, ◌∙◌}
use Rattle.std.specs.Option.{option_copied}
use Rattle.macho_model.specs.Consumed.{is_section_target}
use Rattle.macho_reading.proofs.Named.{entry_found, entry_missing}
use Rattle.macho_reading.proofs.names.find_entry.Goals as goal

pub returns-then-is_section_target-clause-found : goal.returns-then-is_section_target-clause-found
returns-then-is_section_target-clause-found c l noted resolved is =
    entry_found l noted c.in-Some.name.now (option_copied c.args.entry) (ap option_copied c.in-Some.is) is
    (ap is_section_target (sym (c.definition.ensures l noted resolved)) ∙ sym c.is_section_target.ensures ∙ c.if-is_section_target.true)

pub returns-clause-why : goal.returns-clause-why
returns-clause-why c l counts noted resolved is =
    let missing = entry_missing l noted c.in-Some.name.now (option_copied c.args.entry) (ap option_copied c.in-Some.is) is
    (ap is_section_target (sym (c.definition.ensures l noted resolved)) ∙ sym c.is_section_target.ensures ∙ c.if-is_section_target.false) in
    record { stands = (c.in_ok-from_slice.ensures.items ∙ missing.0, missing.1); kept = tt }
