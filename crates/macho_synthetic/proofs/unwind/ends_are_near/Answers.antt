use Rattle.std.proofs.Common.{◌+◌, ◌^◌, ◌<◌}
use Rattle.macho_unwind_pages.specs.declared.entries.ResolvedUnwindInfo.{ResolvedUnwindInfo}
use Rattle.macho_unwind_pages.proofs.Told.{all_done}
use Rattle.macho_synthetic.proofs.Resolved.{near_more}
use Rattle.macho_synthetic.proofs.unwind.ends_are_near.Goals as goal
use Rattle.macho_bytes.proofs.Comparing.{read_alike}

pub loop-entry-preserved : goal.loop-entry-preserved
loop-entry-preserved c =
    near_more c.args.base c.args.entries.now c.loop-entry.entry-index _ c.loop-entry-test.true
    (read_alike c.args.entries.now c.loop-entry.entry-index _ _ c.loop-entry-test.true) c.loop-entry.invariant c.if-entry-base.false

pub returns-clause-near : goal.returns-clause-near
returns-clause-near c =
    all_done (λ (e : ResolvedUnwindInfo). e.start + e.length < c.args.base + 2 ^ 32) c.args.entries.now c.loop-entry.entry-index
    c.loop-entry-test.false c.loop-entry.invariant
