-- A common stands in the commons' section, a value of its own in none, another symbol in that of its section.
use Rattle.std.proofs.Common.{◌≡◌, ◌-◌, ℕ, true, false, refl, sym, ap, ◌∙◌}
use Rattle.std.specs.Prelude.{get_or}
use Rattle.macho_records.specs.Symbols.{is_common_of, has_type}
use Rattle.macho_records.specs.declared.constants.TheConstants.{N_ABS}
use Rattle.macho_symbol_tables.proofs.SectionNumbers.{number_is}
use Rattle.macho_symbol_tables.proofs.sections.section_of_symbol.Goals as goal

pub returns-then-is_common : goal.returns-then-is_common
returns-then-is_common c p f told commons =
    let common : is_common_of c.args.symbol ≡ true = sym c.is_common.ensures ∙ c.if-is_common.true in
    rw common commons

pub returns-then-is_absolute : goal.returns-then-is_absolute
returns-then-is_absolute c p f told commons =
    let common : is_common_of c.args.symbol ≡ false = sym c.is_common.ensures ∙ c.if-is_common.false in
    let own : has_type N_ABS c.args.symbol ≡ true = sym c.is_absolute.ensures ∙ c.if-is_absolute.true in
    rw (common, own) refl

pub returns : goal.returns
returns c p f told commons =
    let common : is_common_of c.args.symbol ≡ false = sym c.is_common.ensures ∙ c.if-is_common.false in
    let own : has_type N_ABS c.args.symbol ≡ false = sym c.is_absolute.ensures ∙ c.if-is_absolute.false in
    rw (common, own)
    (c.number_at.ensures ∙ ap (λ (k : ℕ). get_or c.args.numbers.now k 0) c.saturating_sub.ensures
    ∙ number_is p f c.args.numbers.now (c.args.symbol.n_sect - 1) told)
