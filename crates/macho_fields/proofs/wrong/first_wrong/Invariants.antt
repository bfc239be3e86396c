use Rattle.macho_fields.proofs.wrong.first_wrong.Given as goal
use Rattle.macho_model.specs.Links.{Link}
use Rattle.macho_model.specs.Placement.{Placed}
use Rattle.macho_fields.specs.Filling.{IsToFill}
use Rattle.macho_fields.specs.steps.Fields.{IsInFront}
use Rattle.macho_fields.specs.steps.Reads.{ReadTo}

-- the fields so far read as they are to, and the relocation in front is kept
abbrev pub invariant-loop-index : goal.invariant-loop-index
invariant-loop-index g l =
    record {
      right : (k : Link) (p : Placed) → IsToFill k p l.source.place (g.P.Places.look l.places) l.source.file.now.bytes
          → ReadTo k p l.source.place l.index l.bytes;
      front : IsInFront l.source.list.bytes l.source.list.section l.index l.previous;
    }
