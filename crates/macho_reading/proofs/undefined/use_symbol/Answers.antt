-- Of each kind it is the use of that kind in the walk.
use Rattle.std.proofs.Common.{Contains, subst}
use Rattle.std.proofs.lemmas.Result.{err_from_is_err_and}
use Rattle.macho_model.specs.Uses.{uses_of}
use Rattle.macho_consumed.specs.declared.listing.Kind.{Kind}
use Rattle.macho_reading.specs.steps.Uses.{use_of}
use Rattle.macho_reading.proofs.Placed.{still_resolved}
use Rattle.macho_reading.proofs.undefined.use_symbol.Goals as goal

pub returns-in_err-use_initializer-in-Initializers-clause-why : goal.returns-in_err-use_initializer-in-Initializers-clause-why
returns-in_err-use_initializer-in-Initializers-clause-why c l counts s r keeps there is at =
    let e = err_from_is_err_and c.from_residual.result c.from_residual.ensures.1 in
    rw (e.1, e.2)
    (c.in_err-use_initializer-in-Initializers.ensures.why l counts c.args.needs.now.resolved.noted s r
    (still_resolved l c.args.needs.now.resolved keeps)
    (subst (λ (k : Kind). Contains (uses_of l) (use_of k s r)) c.in-Initializers.is there) is at)

pub returns-in_err-use_personality-in-Entries-clause-why : goal.returns-in_err-use_personality-in-Entries-clause-why
returns-in_err-use_personality-in-Entries-clause-why c l counts s r keeps there is at =
    let e = err_from_is_err_and c.from_residual-in_err-use_personality-in-Entries.result
    c.from_residual-in_err-use_personality-in-Entries.ensures.1 in
    rw (e.1, e.2)
    (c.in_err-use_personality-in-Entries.ensures.why l counts c.args.needs.now.resolved.noted s r
    (still_resolved l c.args.needs.now.resolved keeps)
    (subst (λ (k : Kind). Contains (uses_of l) (use_of k s r)) c.in-Entries.is there) is at)
