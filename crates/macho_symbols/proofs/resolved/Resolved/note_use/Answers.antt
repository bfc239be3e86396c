use Rattle.std.proofs.Common.{subst, sym}
use Rattle.macho_symbols.specs.Kept.{ResolvedRows, IsResolved, HasSymbol}
use Rattle.macho_symbols.proofs.Targeted.{target_here}
use Rattle.macho_symbols.proofs.UsesHere.{on_ok, same_ok, noted_here, found_here, undefined_here}
use Rattle.macho_symbols.proofs.resolved.Resolved.note_use.Goals as goal
use Rattle.macho_bytes.proofs.Comparing.{if_err}

pub returns-clause-noted : goal.returns-clause-noted
returns-clause-noted c l noted is =
    let here = subst (IsResolved l noted) (sym c.self.view_is) is in
    let there = subst (λ (r : ResolvedRows). HasSymbol r c.args.file c.args.symbol) (sym c.self.view_is) c.requires in
    on_ok _ (λ notes. noted_here l noted _ _ c.args.file c.args.symbol here there c.note_use.ensures.files notes) c.note_use.ensures.noted

pub returns-clause-target : goal.returns-clause-target
returns-clause-target c l noted is =
    let here = subst (IsResolved l noted) (sym c.self.view_is) is in
    let there = subst (λ (r : ResolvedRows). HasSymbol r c.args.file c.args.symbol) (sym c.self.view_is) c.requires in
    same_ok c.note_use.result _ _ (target_here l noted _ c.args.file c.args.symbol here there) c.note_use.ensures.target

pub returns-clause-found : goal.returns-clause-found
returns-clause-found c l noted is =
    let here = subst (IsResolved l noted) (sym c.self.view_is) is in
    let there = subst (λ (r : ResolvedRows). HasSymbol r c.args.file c.args.symbol) (sym c.self.view_is) c.requires in
    on_ok _ (found_here l noted _ c.args.file c.args.symbol here there) c.note_use.ensures.found

pub returns-clause-why : goal.returns-clause-why
returns-clause-why c l noted is =
    let here = subst (IsResolved l noted) (sym c.self.view_is) is in
    let there = subst (λ (r : ResolvedRows). HasSymbol r c.args.file c.args.symbol) (sym c.self.view_is) c.requires in
    if_err _ _ _ (undefined_here l noted _ c.args.file c.args.symbol here there) c.note_use.ensures.why
