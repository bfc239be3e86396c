-- A text with a fourth part is no version.
use Rattle.std.proofs.Common.{refl}
use Rattle.macho_args.proofs.Dots.{version-four}
use Rattle.macho_args.proofs.version.SemanticVersion.try_from.Goals as goal

pub returns-in-Some-rest-2 : goal.returns-in-Some-rest-2
returns-in-Some-rest-2 c =
    let first = rw c.in-Some.is at c.first_part.ensures in
    let second = rw c.in-Some-rest.is at c.first_part-2.ensures in
    let third = rw c.in-Some-rest-2.is at c.first_part-3.ensures in
    version-four c.args.text.now c.first_part.result.0.now c.first_part-2.result.0.now c.first_part-3.result.0.now
    c.in-Some-rest-2._fourth.now
    (rw (first, second, third) refl)
