use Rattle.std.proofs.Common.{◌≡◌, map, take}
use Rattle.std.specs.String.{string_bytes}
use Rattle.macho_linker.proofs.linker.bytes_of.Given as goal

-- the paths so far have their bytes
abbrev pub invariant-loop-path : goal.invariant-loop-path
invariant-loop-path l = map (λ copy. copy.items) l.copies.items ≡ map string_bytes (take l.path-index l.paths)
