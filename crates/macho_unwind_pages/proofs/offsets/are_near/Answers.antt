-- Whether the addresses of all entries are told by offsets of 32 bits.
--
-- If it holds of the first k entries and of entry k, it holds of the first k + 1. At the end the first k are all.
use Rattle.macho_unwind_pages.specs.steps.Planning.{IsNear}
use Rattle.macho_unwind_pages.proofs.Told.{all_more, all_done}
use Rattle.macho_unwind_pages.proofs.offsets.are_near.Goals as goal

pub loop-entry-preserved : goal.loop-entry-preserved
loop-entry-preserved c =
    all_more (IsNear c.args.text_start) c.args.run.now c.loop-entry.entry-index _ c.loop-entry-test.true c.loop-entry.invariant
    c.if-not-is_near.ensures.near

pub returns-clause-near : goal.returns-clause-near
returns-clause-near c =
    all_done (IsNear c.args.text_start) c.args.run.now c.loop-entry.entry-index c.loop-entry-test.false c.loop-entry.invariant
