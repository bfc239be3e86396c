-- The names that are looked up first are those that objects use, and members of whole archives.
use Rattle.std.proofs.Common.{false, sym, subst}
use Rattle.std.specs.List.{flat_map}
use Rattle.macho_members.specs.Views.{inputs_of}
use Rattle.macho_members.specs.steps.Held.{starts_in}
use Rattle.macho_members.specs.steps.Taken.{AreUnderway}
use Rattle.macho_members.proofs.Search.{none_taken}
use Rattle.macho_members.proofs.Starts.{started, objects_start, wholes_start}
use Rattle.macho_members.proofs.needed.needed_members.Goals as goal

pub taken_members-requires-clause-start : goal.taken_members-requires-clause-start
taken_members-requires-clause-start c =
    let xs = c.args.inputs.now in
    subst (AreUnderway (inputs_of xs) (λ i m. false)) (sym c.in_ok-pending.ensures)
    (none_taken (inputs_of xs) (flat_map starts_in xs) (started xs) (objects_start xs) (wholes_start xs))
