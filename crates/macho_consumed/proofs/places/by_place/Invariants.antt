use Rattle.macho_consumed.specs.steps.Places.{IsTable, IsLeast}
use Rattle.macho_consumed.proofs.places.by_place.Given as goal

abbrev pub invariant-loop-index : goal.invariant-loop-index
invariant-loop-index l = record {
  table : IsTable l.relocations.bytes l.relocations.section l.index l.cells.items;
  least : IsLeast l.relocations.bytes l.relocations.section l.index l.between;
}
