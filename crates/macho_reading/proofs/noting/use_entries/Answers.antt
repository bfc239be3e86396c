-- The entries before an index were looked at; what they use is noted behind what was noted before.
use Rattle.std.proofs.Common.{◌++◌, take}
use Rattle.std.specs.List.{flat_map}
use Rattle.std.proofs.lemmas.Result.{err_from_is_err_and}
use Rattle.macho_consumed.specs.Laws.{uses_of_entry}
use Rattle.macho_reading.proofs.Following.{begins_more, noted_more}
use Rattle.macho_reading.proofs.noting.use_entries.Goals as goal

pub loop-entry-preserved : goal.loop-entry-preserved
loop-entry-preserved c = record {
  noted = λ l us noted all begins.
      noted_more l us uses_of_entry c.args.entries.now c.loop-entry.entry-index _ c.use_entry.new.needs c.loop-entry-test.true
      (c.in_ok-use_entry.ensures.noted l (us ++ flat_map uses_of_entry (take c.loop-entry.entry-index c.args.entries.now))
      (c.loop-entry.invariant.noted l us noted all begins) (all c.loop-entry.entry-index _ c.loop-entry-test.true)
      (begins_more l us uses_of_entry c.args.entries.now c.loop-entry.entry-index _ c.loop-entry-test.true begins));
  kept = λ inputs keeps. c.in_ok-use_entry.ensures.kept inputs (c.loop-entry.invariant.kept inputs keeps);
}

pub returns-in_err-use_entry-clause-why : goal.returns-in_err-use_entry-clause-why
returns-in_err-use_entry-clause-why c l counts us noted all begins =
    let e = err_from_is_err_and c.from_residual.result c.from_residual.ensures.1 in
    rw (e.1, e.2)
    (c.in_err-use_entry.ensures.why l counts (us ++ flat_map uses_of_entry (take c.loop-entry.entry-index c.args.entries.now))
    (c.loop-entry.invariant.noted l us noted all begins) (all c.loop-entry.entry-index _ c.loop-entry-test.true)
    (begins_more l us uses_of_entry c.args.entries.now c.loop-entry.entry-index _ c.loop-entry-test.true begins))
