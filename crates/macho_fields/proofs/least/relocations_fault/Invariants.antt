use Rattle.macho_fields.proofs.least.relocations_fault.Given as goal
use Rattle.macho_model.specs.Links.{Link}
use Rattle.macho_model.specs.Placement.{Placed}
use Rattle.macho_fields.specs.Filling.{IsToFill}
use Rattle.macho_fields.specs.Faults.{FillStands}
use Rattle.macho_fields.specs.steps.Fields.{IsInFront}

-- the fault that is told so far stands, and the relocation in front is kept
abbrev pub invariant-loop-index : goal.invariant-loop-index
invariant-loop-index g l =
    record {
      stands : (k : Link) (p : Placed) → IsToFill k p l.source.place (g.P.Places.look l.places) l.source.file.now.bytes
          → FillStands k p l.fn.told → FillStands k p l.least;
      front : IsInFront l.source.list.bytes l.source.list.section l.index l.previous;
    }
