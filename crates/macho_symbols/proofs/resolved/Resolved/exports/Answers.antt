use Rattle.std.proofs.Common.{subst, sym, refl}
use Rattle.std.specs.Option.{option_copied}
use Rattle.macho_symbols.specs.Kept.{IsResolved}
use Rattle.macho_symbols.proofs.AskedFor.{names_found, name_missing}
use Rattle.macho_symbols.proofs.ExportedLink.{exports_here, plain_so}
use Rattle.macho_symbols.proofs.UsesHere.{on_ok, both_ok}
use Rattle.macho_symbols.proofs.resolved.Resolved.exports.Goals as goal
use Rattle.macho_bytes.proofs.Comparing.{if_err}

pub returns-clause-exported : goal.returns-clause-exported
returns-clause-exported c l noted is lists =
    let here = subst (IsResolved l noted) (sym c.self.view_is) is in
    both_ok c.exports.result _ _ _
    (λ es told order. exports_here l noted _ (option_copied c.args.list) c.self.inside.solved.imports.items es.items here lists refl
    c.self.invariant.libraries told order) c.exports.ensures.told c.exports.ensures.order

pub returns-clause-found : goal.returns-clause-found
returns-clause-found c l noted is lists =
    let here = subst (IsResolved l noted) (sym c.self.view_is) is in
    on_ok _ (names_found l noted _ _ _ here (plain_so l (option_copied c.args.list) lists)) c.exports.ensures.found

pub returns-clause-why : goal.returns-clause-why
returns-clause-why c l noted is lists =
    let here = subst (IsResolved l noted) (sym c.self.view_is) is in
    if_err _ _ _ (name_missing l noted _ _ _ here (plain_so l (option_copied c.args.list) lists)) c.exports.ensures.why
