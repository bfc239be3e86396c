use Rattle.macho_symbol_names.proofs.Entries.{some_if, row_is, kept_string}
use Rattle.macho_symbol_names.proofs.notes.note_of.Goals as goal

pub returns-clause-row : goal.returns-clause-row
returns-clause-row c =
    let is = (some_if _ _ _ c.in-Some.ensures).1 in
    let name =
    kept_string c.args.file.now.bytes c.args.index c.in-Some.symbol c.name_of_symbol-name.result is c.name_of_symbol-name.ensures.is
    c.name_of_symbol-name.ensures.at in
    row_is c.args.file.now.bytes c.args.index c.in-Some.symbol _ _ _ _ _ _ _ is name c.lead_of-lead.ensures.sort
    c.lead_of-lead.ensures.number
    c.lead_of-lead.ensures.value c.is_global.ensures c.is_weak.ensures c.is_hidden.ensures
