use Rattle.std.proofs.Common.{◌≡◌, take}
use Rattle.macho_linkedit.specs.Imports.{name_bytes}
use Rattle.macho_linkedit.proofs.counting.names_size.Given as goal

-- the bytes of the first names
abbrev pub invariant-loop-import : goal.invariant-loop-import
invariant-loop-import l = l.size ≡ name_bytes (take l.import-index l.imports)
