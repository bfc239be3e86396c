use Rattle.std.proofs.Common.{take}
use Rattle.std.specs.List.{flat_map}
use Rattle.sha2.specs.Hashers.{Holds256}
use Rattle.macho_linker.specs.Linkers.{bytes_of}
use Rattle.macho_job.proofs.uuid.digest_of_inputs.Given as goal

-- the hasher holds the files so far
abbrev pub invariant-loop-file : goal.invariant-loop-file
invariant-loop-file l = Holds256 l.hasher (flat_map bytes_of (take l.file l.linker.inputs))
