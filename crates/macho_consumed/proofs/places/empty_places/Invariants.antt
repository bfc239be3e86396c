use Rattle.std.proofs.Common.{◌≡◌, replicate}
use Rattle.macho_consumed.specs.declared.places.Cell.TheVariants.{Empty}
use Rattle.macho_consumed.proofs.places.empty_places.Given as goal

abbrev pub invariant-loop-place : goal.invariant-loop-place
invariant-loop-place l = l.cells.items ≡ replicate l.place Empty
