use Rattle.std.proofs.Common.{subst, sym}
use Rattle.macho_symbols.specs.Kept.{IsResolved}
use Rattle.macho_symbols.proofs.AskedFor.{names_noted, names_found, name_missing}
use Rattle.macho_symbols.proofs.UsesHere.{on_ok}
use Rattle.macho_symbols.proofs.resolved.Resolved.note_exports.Goals as goal
use Rattle.macho_bytes.proofs.Comparing.{if_err}

pub returns-clause-noted : goal.returns-clause-noted
returns-clause-noted c l noted is =
    let here = subst (IsResolved l noted) (sym c.self.view_is) is in
    on_ok _ (λ told. names_noted l noted c.args.list.now.plain _ _ _ here told.grown.files c.required_symbols.ensures told.noted)
    c.note_names.ensures.noted

pub returns-clause-found : goal.returns-clause-found
returns-clause-found c l noted is =
    let here = subst (IsResolved l noted) (sym c.self.view_is) is in
    on_ok _ (λ told. names_found l noted c.args.list.now.plain _ _ here c.required_symbols.ensures told.found) c.note_names.ensures.noted

pub returns-clause-why : goal.returns-clause-why
returns-clause-why c l noted is =
    let here = subst (IsResolved l noted) (sym c.self.view_is) is in
    if_err _ _ _ (name_missing l noted c.args.list.now.plain _ _ here c.required_symbols.ensures) c.note_names.ensures.why
