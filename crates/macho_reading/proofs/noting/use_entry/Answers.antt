use Rattle.std.proofs.Common.{◌++◌, List, Option, sym, subst, refl}
use Rattle.std.proofs.lemmas.Result.{err_from_is_err_and}
use Rattle.macho_model.specs.Links.{section_id}
use Rattle.macho_model.specs.Uses.{Use}
use Rattle.macho_promise.specs.Noted.{BeginsWith}
use Rattle.macho_needs.specs.Noted.{IsNoted}
use Rattle.macho_consumed.specs.declared.rows.PersonalityUse.{PersonalityUse}
use Rattle.macho_consumed.specs.Laws.{use_of_personality}
use Rattle.macho_reading.specs.steps.Rows.{IsPersonalityOf}
use Rattle.macho_reading.proofs.Following.{entry_used, last_used}
use Rattle.macho_reading.proofs.noting.use_entry.Goals as goal

pub returns-clause-noted : goal.returns-clause-noted
returns-clause-noted c l us noted of begins =
    let used = entry_used c.args.entry c.in-Some.used c.in-Some.is in
    let at = section_id c.args.entry.file c.args.entry.section in
    subst (λ (ws : List Use). IsNoted l (us ++ ws) c.use_personality.new.self) (sym used)
    (c.in_ok-use_personality.ensures.noted l us at c.in-Some.used.number noted
    (subst (λ (ws : List Use). BeginsWith l (us ++ ws)) used begins)
    (subst (λ (o : Option PersonalityUse). IsPersonalityOf l at o) c.in-Some.is of) refl)

pub returns-in_err-use_personality-clause-why : goal.returns-in_err-use_personality-clause-why
returns-in_err-use_personality-clause-why c l counts us noted of begins =
    let used = entry_used c.args.entry c.in-Some.used c.in-Some.is in
    let at = section_id c.args.entry.file c.args.entry.section in
    let e = err_from_is_err_and c.from_residual.result c.from_residual.ensures.1 in
    rw (e.1, e.2)
    (c.in_err-use_personality.ensures.why l counts _ at c.in-Some.used.number noted.imports
    (last_used l us (use_of_personality c.args.entry c.in-Some.used) (subst (λ (ws : List Use). BeginsWith l (us ++ ws)) used begins))
    (subst (λ (o : Option PersonalityUse). IsPersonalityOf l at o) c.in-Some.is of) refl)
