-- A list has so many where it has one at the place before.
use Rattle.std.proofs.Common.{refl, sym, arith}
use Rattle.macho_image_walks.proofs.ListedLaws.{many_listed}
use Rattle.macho_image_walks.proofs.table_rules.has_many.Goals as goal

pub returns-in-Some : goal.returns-in-Some
returns-in-Some c =
    let some = c.if-count-eq0.false in
    sym (many_listed c.args.list c.args.bytes.now c.args.count c.in-Some._place (grind (arith, some))
    (c.in-Some.ensures.found c.in-Some._place refl))
