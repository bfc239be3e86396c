use Rattle.std.proofs.Common.{Some, ap}
use Rattle.macho_devices.specs.Devices.{prefix}
use Rattle.macho_devices.specs.Memory.{Held}
use Rattle.macho_devices.proofs.memory_files.MemoryFilesFiles.write.Goals as goal

-- the path holds as many of the first bytes as the failing write leaves
pub returns-in-Ok-clause-left : goal.returns-in-Ok-clause-left
returns-in-Ok-clause-left c =
    prefix c.in-Some.left (rw c.front.ensures at (ap (λ (held : Held). Some held.files) c.in-Ok.ensures.done))
