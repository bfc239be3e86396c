-- The entries so far are listed.
use Rattle.std.proofs.Common.{◌≡◌, map}
use Rattle.std.specs.List.{range_with_len}
use Rattle.macho_image_walks.specs.Readings.{table_there}
use Rattle.macho_loader.specs.Lists.{import_at, import_of}
use Rattle.macho_loader.proofs.imports.list_imports.Given as goal

abbrev pub invariant-loop-number : goal.invariant-loop-number
invariant-loop-number l =
    map import_of l.imports.items ≡ map (import_at l.bytes (table_there l.bytes l.table)) (range_with_len 0 l.number)
