-- Carried relocations are noted first; what is read behind them stands on that, and each refusal is of one of these two steps.
use Rattle.std.proofs.Common.{◌≡◌, ◌⊎◌, Option, Result, Some, Ok, Err, inl, inr, subst, IfErr, IfSome}
use Rattle.macho_answer.specs.declared.fault.LinkError.{LinkError}
use Rattle.macho_answer.specs.Standing.{Stands}
use Rattle.macho_model.specs.declared.placed.Counts.{Counts}
use Rattle.macho_model.specs.Links.{Link}
use Rattle.macho_reading.specs.declared.rows.Rows.{Rows}
use Rattle.std.specs.Option.{option_copied}
use Rattle.std.proofs.lemmas.Result.{err_from_is_err_and}
use Rattle.macho_reading.proofs.Finished.{surveyed}
use Rattle.macho_reading.proofs.reading.read_uses.Goals as goal

-- a refusal is one of the two that stand
either_stands : (l : Link) (counts : Counts) (read r : Result Rows LinkError) (told : Option LinkError) → IfErr read (Stands l counts)
    → IfSome told (Stands l counts) → IfErr r (λ error. (read ≡ Err error) ⊎ (told ≡ Some error)) → IfErr r (Stands l counts)
either_stands l counts read (Ok x) told reads tells why = tt
either_stands l counts read (Err e) told reads tells why = elim why [
  | inl same ↦ subst (λ (r : Result Rows LinkError). IfErr r (Stands l counts)) same reads
  | inr same ↦ subst (λ (o : Option LinkError). IfSome o (Stands l counts)) same tells
]

pub returns-in_err-told-clause-why : goal.returns-in_err-told-clause-why
returns-in_err-told-clause-why c l counts of begun =
    let e = err_from_is_err_and c.from_residual.result c.from_residual.ensures.1 in
    rw (e.1, e.2) (c.in_err-told.ensures.why l counts of.views_are begun)

pub returns-clause-why : goal.returns-clause-why
returns-clause-why c l counts of begun =
    let noted = c.in_ok-told.ensures.noted l of.views_are begun in
    let at = surveyed l c.args.views.now c.args.needs.now.resolved (option_copied c.args.entry) (option_copied c.args.list)
    c.survey.new.needs of noted in
    either_stands l counts c.read_behind-read.result c.unless_told.result c.in_ok-told.told (c.read_behind-read.ensures.why l counts at)
    (c.in_ok-told.ensures.told l counts of.views_are begun) c.unless_told.ensures.why
