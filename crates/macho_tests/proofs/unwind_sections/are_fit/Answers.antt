-- A list of entries that the test lets through meets the conditions of a section.
--
-- After the loop each entry was looked at, and each two entries, the earlier with the later one. What was looked at one by
-- one and two by two makes up the conditions.
use Rattle.std.proofs.Common.{arith}
use Rattle.macho_tests.proofs.Fitness.{are_entries}
use Rattle.macho_tests.proofs.unwind_sections.are_fit.Goals as goal

pub returns : goal.returns
returns c holds =
    are_entries c.args.text c.args.entries.now (λ k h. c.loop-later.invariant.fit k (omega arith))
    (λ i j lt h. c.loop-later.invariant.apart i j lt (omega arith))
