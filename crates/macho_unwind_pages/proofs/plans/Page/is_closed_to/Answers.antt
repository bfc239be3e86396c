-- A page is not closed to a function whose code it names.
--
-- The tests before it left room: the function is less than 2^24 behind the first one, and a word more is within the limit.
-- The code has a number, so it is named, and nothing is asked of room for a new code.
use Rattle.std.proofs.Common.{sym, ◌∙◌, rules}
use Rattle.macho_unwind_pages.proofs.Naming.{is_in}
use Rattle.macho_unwind_pages.proofs.plans.Page.is_closed_to.Goals as goal

pub returns-then-is_some-clause-open : goal.returns-then-is_some-clause-open
returns-then-is_some-clause-open c =
    let there = is_in _ c.args.row.code (sym c.number_of.ensures.found ∙ sym c.is_some.ensures ∙ c.if-is_some.true) in
    record { behind = c.requires.behind; near = search rules; word = search rules; code = λ no. absurd (no there) }
