-- Symbols or strings that end behind the file are tables that aren't inside it.
use Rattle.std.proofs.Common.{rules, ◌≡◌, false, ℕ, List}
use Rattle.macho_model.specs.Objects.{symtab_of, num_symbols}
use Rattle.macho_model.specs.ObjectRules.{tables_inside}
use Rattle.macho_object.proofs.Places.{breaks_tables}
use Rattle.macho_object.proofs.outline.read_symtab.Goals as goal

pub returns-then-symbols_end-input-clause-why : goal.returns-then-symbols_end-input-clause-why
unfolding symtab_of num_symbols
returns-then-symbols_end-input-clause-why c =
    let outside : tables_inside c.args.input.now ≡ false = search rules in
    breaks_tables c.args.is_dynamic c.args.input.now c.args.places c.requires outside
