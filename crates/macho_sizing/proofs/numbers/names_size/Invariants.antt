-- Bytes of names: what holds before import k is that the sum has those of the first k.
use Rattle.std.proofs.Common.{◌≡◌, ◌<◌, ◌^◌, take}
use Rattle.macho_linkedit.specs.Imports.{name_bytes}
use Rattle.macho_sizing.proofs.numbers.names_size.Given as goal

abbrev pub invariant-loop-import : goal.invariant-loop-import
invariant-loop-import l = record {
  value : l.size ≡ name_bytes (take l.import-index l.imports);
  fits : l.size < 2 ^ 64;
}
