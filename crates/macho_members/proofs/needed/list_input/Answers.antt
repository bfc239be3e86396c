-- An archive lists its members; other inputs have none.
use Rattle.std.proofs.Common.{ap, ◌∙◌}
use Rattle.macho_members.specs.Inputs.{members_of}
use Rattle.macho_members.specs.Views.{inputs_of, input_of, places_of}
use Rattle.macho_members.specs.steps.Held.{held}
use Rattle.macho_members.proofs.Members.{at_number}
use Rattle.macho_members.proofs.Listing.{next_listed}
use Rattle.macho_members.proofs.Archives.{none_linked, linked_here, links_here}
use Rattle.macho_members.proofs.needed.list_input.Goals as goal

pub returns-in-Object : goal.returns-in-Object
returns-in-Object c = λ all done low is was.
    next_listed (inputs_of all) c.args.number 0 (places_of c.args.places.now.items)
    (none_linked (inputs_of all) (held c.args.taken.now.keys) c.args.number done
    (at_number members_of all c.args.number c.args.input.now low is ∙ ap (λ y. members_of (input_of y)) c.in-Object.is)) was

pub returns-in-Library : goal.returns-in-Library
returns-in-Library c = λ all done low is was.
    next_listed (inputs_of all) c.args.number 0 (places_of c.args.places.now.items)
    (none_linked (inputs_of all) (held c.args.taken.now.keys) c.args.number done
    (at_number members_of all c.args.number c.args.input.now low is ∙ ap (λ y. members_of (input_of y)) c.in-Library.is)) was

pub returns-in-Archive : goal.returns-in-Archive
returns-in-Archive c = λ all done low is was.
    c.list_archive.ensures (inputs_of all) was
    (linked_here all (held c.args.taken.now.keys) c.args.number c.args.input.now _ _ done low is c.in-Archive.is)
    (links_here all (held c.args.taken.now.keys) c.args.number c.args.input.now _ _ done low is c.in-Archive.is)
