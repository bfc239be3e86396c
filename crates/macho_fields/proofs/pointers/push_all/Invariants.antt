use Rattle.macho_fields.proofs.pointers.push_all.Given as goal
use Rattle.macho_model.specs.Links.{Link}
use Rattle.macho_model.specs.Placement.{Placed}
use Rattle.macho_fields.specs.Filling.{IsToFill}
use Rattle.macho_fields.specs.steps.Fields.{IsInFront}
use Rattle.macho_fields.specs.steps.Pointers.{ArePointersTo}

-- the pointers so far are told, and the relocation in front is kept
abbrev pub invariant-loop-index : goal.invariant-loop-index
invariant-loop-index g l =
    record {
      pointed : (k : Link) (p : Placed) → IsToFill k p l.source.place (g.P.Places.look l.places) l.source.file.now.bytes
          → ArePointersTo k l.source.place l.index l.initial.run.items l.run.items;
      front : IsInFront l.source.list.bytes l.source.list.section l.index l.previous;
    }
