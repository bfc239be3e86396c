-- The segment with the number is the one whose command was found.
use Rattle.std.proofs.Common.{refl}
use Rattle.macho_image_walks.proofs.WordWalk.{step_at}
use Rattle.macho_image_walks.proofs.chain_words.step_in.Goals as goal

pub returns-in-Some-clause-found : goal.returns-in-Some-clause-found
returns-in-Some-clause-found c n is =
    record { place = c.in-Some.place; nth = c.in-Some.ensures.found c.in-Some.place refl; step = c.step_of.ensures.found n is }

pub returns-in-Some-clause-only : goal.returns-in-Some-clause-only
returns-in-Some-clause-only c n step =
    c.step_of.ensures.only n (step_at c.args.bytes.now c.args.number c.in-Some.place c.args.address n
    (c.in-Some.ensures.found c.in-Some.place refl) step)
