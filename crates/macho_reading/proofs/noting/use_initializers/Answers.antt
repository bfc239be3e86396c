-- The rows before an index were looked at; what they use is noted behind what was noted before.
use Rattle.std.proofs.Common.{◌++◌, take, refl}
use Rattle.std.specs.List.{flat_map}
use Rattle.std.proofs.lemmas.Result.{err_from_is_err_and}
use Rattle.macho_reading.specs.steps.Rows.{uses_of_row}
use Rattle.macho_reading.proofs.Following.{begins_more, noted_more, last_used}
use Rattle.macho_reading.proofs.noting.use_initializers.Goals as goal

pub loop-row-preserved : goal.loop-row-preserved
loop-row-preserved c = record {
  noted = λ l us noted all begins.
      noted_more l us uses_of_row c.args.rows.now c.loop-row.row-index _ c.use_initializer.new.self c.loop-row-test.true
      (c.in_ok-use_initializer.ensures.noted l (us ++ flat_map uses_of_row (take c.loop-row.row-index c.args.rows.now)) _ _
      (c.loop-row.invariant.noted l us noted all begins)
      (begins_more l us uses_of_row c.args.rows.now c.loop-row.row-index _ c.loop-row-test.true begins)
      (all c.loop-row.row-index _ c.loop-row-test.true) refl);
  kept = λ inputs keeps. c.in_ok-use_initializer.ensures.kept inputs (c.loop-row.invariant.kept inputs keeps);
}

pub returns-in_err-use_initializer-clause-why : goal.returns-in_err-use_initializer-clause-why
returns-in_err-use_initializer-clause-why c l counts us noted all begins =
    let e = err_from_is_err_and c.from_residual.result c.from_residual.ensures.1 in
    rw (e.1, e.2)
    (c.in_err-use_initializer.ensures.why l counts _ _ _ (c.loop-row.invariant.noted l us noted all begins).imports
    (last_used l (us ++ flat_map uses_of_row (take c.loop-row.row-index c.args.rows.now)) _
    (begins_more l us uses_of_row c.args.rows.now c.loop-row.row-index _ c.loop-row-test.true begins))
    (all c.loop-row.row-index _ c.loop-row-test.true) refl)
