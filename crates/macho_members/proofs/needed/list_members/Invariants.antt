use Rattle.macho_members.specs.Views.{inputs_of, places_of}
use Rattle.macho_members.specs.steps.Taken.{AreTaken, AreListed}
use Rattle.macho_members.specs.steps.Held.{held}
use Rattle.macho_members.proofs.needed.list_members.Given as goal

-- the members of the inputs so far are listed
abbrev pub invariant-loop-number : goal.invariant-loop-number
invariant-loop-number l =
    AreTaken (inputs_of l.inputs) (held l.taken.keys) → AreListed (inputs_of l.inputs) l.number 0 (places_of l.places.items)
