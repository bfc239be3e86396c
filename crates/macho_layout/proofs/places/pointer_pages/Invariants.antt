-- The pages: what holds before segment k is that they are those of the first k, fewer than 2^50 for each.
use Rattle.std.proofs.Common.{◌≡◌, ◌*◌, ◌^◌, ◌≤◌, take}
use Rattle.macho_layout.specs.Places.{row_pages}
use Rattle.macho_layout.proofs.places.pointer_pages.Given as goal

abbrev pub invariant-loop-segment : goal.invariant-loop-segment
invariant-loop-segment l = record {
  value : l.pages ≡ row_pages (take l.segment-index
      l.segments);
  small : l.pages ≤ 2 ^ 50 * l.segment-index;
}
