use Rattle.std.proofs.Common.{◌≡◌, ap, sym, ◌∙◌, subst, false, All}
use Rattle.std.specs.Option.{option_copied}
use Rattle.macho_symbols.specs.steps.Exporting.{required_in}
use Rattle.macho_symbols.specs.steps.Solved.{IsMissingIn}
use Rattle.macho_symbols.specs.steps.Targets.{is_missing_in}
use Rattle.macho_symbols.proofs.UsesHere.{on_ok}
use Rattle.macho_symbols.proofs.solved.Solved.find_required.Goals as goal
use Rattle.macho_bytes.proofs.Comparing.{if_err}

pub returns-in-Some-clause-found : goal.returns-in-Some-clause-found
returns-in-Some-clause-found c =
    let all = c.required_symbols.ensures ∙ ap (λ o. required_in (option_copied o)) (sym c.in-Some.is) in
    on_ok _ (λ found. subst (All (λ name. is_missing_in c.args.self.now.files.items name ≡ false)) all found) c.find_all.ensures.found

pub returns-in-Some-clause-why : goal.returns-in-Some-clause-why
returns-in-Some-clause-why c =
    let all = c.required_symbols.ensures ∙ ap (λ o. required_in (option_copied o)) (sym c.in-Some.is) in
    if_err _ _ _ (λ fault told. subst (λ ns. IsMissingIn c.args.self.now.files.items ns fault) all told) c.find_all.ensures.why
