-- The last function of a page whose offset in the page is not above a limit.
--
-- The best one of the first j functions is known. The step compares function j with it, and the step's contract holds for
-- any numbers that have the one that was read at j: here the offset that word j has. So the best of the first j + 1 is
-- known.
use Rattle.std.proofs.Common.{ℕ, sym, ap}
use Rattle.macho_unwind.specs.Sections.{word_at}
use Rattle.macho_unwind.proofs.lookup.find_function.Goals as goal
use Rattle.macho_unwind.specs.steps.Sections.{offset_in}

pub loop-j-preserved : goal.loop-j-preserved
loop-j-preserved c =
    c.greater-best.ensures (λ (j : ℕ). offset_in (word_at c.args.bytes.now c.args.page.number j))
    (sym (ap offset_in c.read_word-word.ensures)) c.loop-j.invariant
