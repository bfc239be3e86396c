-- A look-up finds the first place of the library, which is below their number; where it finds nothing, that is their number.
use Rattle.std.proofs.Common.{arith}
use Rattle.std.specs.HashMap.{get}
use Rattle.std.proofs.lemmas.List.{length-map}
use Rattle.macho_linkedit.specs.Imports.{texts}
use Rattle.macho_linkedit.specs.Libraries.{same_text}
use Rattle.macho_linkedit.proofs.Places.{place_some, place_none}
use Rattle.macho_linkedit.proofs.libraries.library_number.Goals as goal

pub overflow_add-result : goal.overflow_add-result
overflow_add-result c =
    let found = place_some (texts c.args.libraries.now)
    (get same_text c.args.places.now) c.args.library c.in-Some.place.now c.requires.known c.in-Some.ensures.value in
    omega (arith, found.1, c.requires.few, length-map c.args.libraries.now (λ x. x.items))

pub returns-in-Some-clause-within : goal.returns-in-Some-clause-within
returns-in-Some-clause-within c =
    let found = place_some (texts c.args.libraries.now)
    (get same_text c.args.places.now) c.args.library c.in-Some.place.now c.requires.known c.in-Some.ensures.value in
    omega (arith, found.1, length-map c.args.libraries.now (λ x. x.items))

pub returns-in-None-clause-is : goal.returns-in-None-clause-is
returns-in-None-clause-is c =
    let none = place_none (texts c.args.libraries.now)
    (get same_text c.args.places.now) c.args.library c.requires.known c.in-None.ensures.value in
    omega (arith, none, length-map c.args.libraries.now (λ x. x.items))
