-- Why the offset behind the last function isn't told.
--
-- Starts rise along the run, so its last entry has the greatest start. Its end less the text's start is 2^32 or more. So one
-- of the run's entries, the last one, has an end that is too far away.
use Rattle.std.proofs.Common.{inr, refl, get_or, ◌-◌, arith, length}
use Rattle.macho_unwind_pages.proofs.Gathered.{none, is_last, contains_at}
use Rattle.macho_unwind_pages.proofs.offsets.end.Goals as goal

pub returns-then-end-ge4294967296-clause-why : goal.returns-then-end-ge4294967296-clause-why
returns-then-end-ge4294967296-clause-why c =
    let run = c.args.run.now in
    let at = length run - 1 in (
      refl,
      (
        get_or run at none,
        contains_at run at none (omega (arith, c.requires.some)),
        inr (is_last run at none c.requires.rising (omega (arith, c.requires.some)), omega (arith, c.if-end-ge4294967296.true)),
      ),
    )
