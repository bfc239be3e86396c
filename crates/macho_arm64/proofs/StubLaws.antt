-- A stub that goes through its slot does so at every slide.
--
-- Stub and slot move by the same whole pages: the distance of their pages stays, and so does the slot's offset in its
-- page. The words are the same.
use Rattle.std.proofs.Common.{◌≡◌, ℕ, ◌+◌, ◌%◌, arith}
use Rattle.macho_model.specs.Meaning.{GoesThrough}
use Rattle.macho_model.specs.Segments.{SEGMENT_PAGE}

pub goes_through : (place slot adrp ldr br s : ℕ) → GoesThrough place slot adrp ldr br → s % SEGMENT_PAGE ≡ 0
    → GoesThrough (place + s) (slot + s) adrp ldr br
goes_through place slot adrp ldr br s g whole =
    record {
      pages = record { reaches = omega (arith, g.pages.reaches); kept = g.pages.kept };
      loads = record { load = g.loads.load; reaches = omega (arith, g.loads.reaches); kept = g.loads.kept };
      leaves = g.leaves;
    }
