-- The link of the arguments has the plan, the imports and the room that were found; where no room is told, its content is too large.
use Rattle.std.proofs.Common.{◌≡◌, ℕ, sym, subst}
use Rattle.std.specs.Prelude.{Option, Result, Ok, Err, IfErr}
use Rattle.macho_model.specs.declared.placed.Counts.{Counts}
use Rattle.macho_model.specs.Links.{Link}
use Rattle.macho_answer.specs.Standing.{Stands}
use Rattle.macho_answer.specs.declared.fault.LinkError.{LinkError}
use Rattle.macho_answer.specs.declared.fault.LinkError.TheVariants.{OutOfMemory}
use Rattle.macho_sizing.specs.declared.asked.LinkSizes.{LinkSizes}
use Rattle.std.proofs.lemmas.Result.{err_from_is_err_and}
use Rattle.macho_model.specs.Needs.{imports_of}
use Rattle.macho_sizing.specs.steps.Rooms.{TellsRoom}
use Rattle.macho_sizing.proofs.Answered.{content_large}
use Rattle.macho_sizing.proofs.size.plan_sizes.Goals as goal

-- want of memory stands always
out_stands : (l : Link) (counts : Counts) (r : Result LinkSizes LinkError) → IfErr r (λ e. e ≡ OutOfMemory) → IfErr r (Stands l counts)
out_stands l counts (Ok s) x = tt
out_stands l counts (Err e) x = subst (Stands l counts) (sym x) tt

pub returns-in_err-check_limits-clause-why : goal.returns-in_err-check_limits-clause-why
returns-in_err-check_limits-clause-why c l counts of_link lists plan are =
    let e = err_from_is_err_and c.from_residual-in_err-check_limits.result c.from_residual-in_err-check_limits.ensures.1 in
    let imports = c.imports-imports.ensures l (imports_of l) of_link.read.resolved in
    rw (e.1, e.2)
    (c.in_err-check_limits.ensures.why l counts of_link plan (c.in_ok-numbers.ensures.done l of_link imports)
    (c.in_ok-numbers.ensures.symbols l of_link lists) are)

pub returns-in-Some-clause-why : goal.returns-in-Some-clause-why
returns-in-Some-clause-why c l counts of_link lists plan are =
    let imports = c.imports-imports.ensures l (imports_of l) of_link.read.resolved in
    let room = subst (λ (o : Option ℕ). TellsRoom l o) c.in-Some.is (c.in_ok-unwind.ensures l of_link) in
    out_stands l counts c.sizes_within.result c.sizes_within.ensures.why

pub returns-in-None-clause-why : goal.returns-in-None-clause-why
returns-in-None-clause-why c l counts of_link lists plan are =
    let room = subst (λ (o : Option ℕ). TellsRoom l o) c.in-None.is (c.in_ok-unwind.ensures l of_link) in
    c.too_large.ensures l counts of_link plan are (content_large l counts are room)
