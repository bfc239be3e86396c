use Rattle.std.proofs.Common.{◌∙◌, ap}
use Rattle.macho_symbol_names.specs.Kept.{offered_row}
use Rattle.macho_symbol_names.proofs.Entries.{some_if, offered_string, defined_begins_inside}
use Rattle.macho_symbol_names.proofs.files.offered_note.Goals as goal

pub name_at-name-requires-clause-within : goal.name_at-name-requires-clause-within
name_at-name-requires-clause-within c =
    rw c.strings.ensures (defined_begins_inside c.args.file.now c.args.index c.in_ok-symbol.symbol c.is_defined.result
    c.is_dynamic-whole.ensures.kept c.requires.dylib c.requires.among (some_if _ _ _ c.in_ok-symbol.ensures).1 c.is_defined.ensures
    c.if-not-is_defined.false)

pub returns-clause-row : goal.returns-clause-row
returns-clause-row c =
    let named = rw c.strings.ensures at c.name_at-name.ensures.is in
    c.offered.ensures.row _
    ∙ ap offered_row (offered_string _ _ c.in_ok-symbol.symbol _ (some_if _ _ _ c.in_ok-symbol.ensures).1 named c.name_at-name.ensures.at)
