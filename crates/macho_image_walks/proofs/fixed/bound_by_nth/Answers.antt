-- The table with the number is the one whose command was found.
use Rattle.std.proofs.Common.{refl, subst}
use Rattle.macho_image_walks.specs.declared.walk.Listed.TheVariants as list
use Rattle.macho_image_walks.specs.Readings.{table_there}
use Rattle.macho_image_walks.specs.steps.Made.{BoundIn}
use Rattle.macho_image_walks.proofs.NumberedWalk.{nth_one}
use Rattle.macho_image_walks.proofs.fixed.bound_by_nth.Goals as goal

pub returns-in-Some-clause-found : goal.returns-in-Some-clause-found
returns-in-Some-clause-found c v is =
    record { place = c.in-Some.table; nth = c.in-Some.ensures.found c.in-Some.table refl; bound = c.bound_in.ensures.found v is }

pub returns-in-Some-clause-only : goal.returns-in-Some-clause-only
returns-in-Some-clause-only c v by =
    let same = nth_one list.Tables c.args.bytes.now c.args.number by.place c.in-Some.table by.nth
    (c.in-Some.ensures.found c.in-Some.table refl) in
    c.bound_in.ensures.only v (subst (λ p. BoundIn c.args.bytes.now (table_there c.args.bytes.now p) c.args.addresses.now c.args.word v)
    same by.bound)
