use Rattle.std.proofs.Common.{◌+◌, ◌-◌, length, get_or, sym, subst}
use Rattle.macho_consumed.specs.declared.rows.UnwindEntry.{UnwindEntry}
use Rattle.macho_consumed.proofs.Distinct.{AreApart, AreShared, held_step, apart_step, shared_step, row_here, no_row}
use Rattle.macho_consumed.proofs.starts.check_starts.Goals.{then-not-branch, else-not-branch}
use Rattle.macho_consumed.proofs.starts.check_starts.Goals as goal

pub loop-index-preserved : goal.loop-index-preserved
loop-index-preserved c =
    let rows = c.args.entries.now in
    let i = c.loop-index.index in
    let row : UnwindEntry = get_or rows (length rows - 1 - i) no_row in
    let is = row_here rows i c.loop-index-test.true in
    let held = c.loop-index.invariant.held in
    let says = c.in_ok-insert.ensures.added in
    record {
      held = held_step rows i row _ _ _ held c.loop-index-test.true is c.start_key.ensures c.in_ok-insert.ensures.keys;
      apart = elim c.if-not-branch.branch [
        | then-not-branch w ↦ subst (AreApart rows (length rows - (i + 1))) (sym w.again-is) tt
        | else-not-branch w ↦ subst (AreApart rows (length rows - (i + 1))) (sym w.again-is)
            (apart_step rows i row _ _ _ _ held c.loop-index.invariant.apart c.loop-index-test.true is c.start_key.ensures says
            w.if-not-branch.false)
      ];
      shared = elim c.if-not-branch.branch [
        | then-not-branch w ↦ subst (AreShared rows) (sym w.again-is)
            (shared_step rows i row _ _ _ held c.loop-index-test.true is c.start_key.ensures says w.if-not-branch.true)
        | else-not-branch w ↦ subst (AreShared rows) (sym w.again-is) c.loop-index.invariant.shared
      ];
    }
