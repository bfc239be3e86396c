-- Symbols of objects: what holds before object k is that the sum has those of the first k.
use Rattle.std.proofs.Common.{◌≡◌, ◌<◌, ◌^◌, take, sum_by}
use Rattle.macho_model.specs.Objects.{num_symbols}
use Rattle.macho_sizing.proofs.numbers.object_symbols.Given as goal

abbrev pub invariant-loop-object : goal.invariant-loop-object
invariant-loop-object l = record {
  value : l.symbols ≡ sum_by (λ o. num_symbols o.file.bytes) (take l.object-index l.objects);
  fits : l.symbols < 2 ^ 64;
}
