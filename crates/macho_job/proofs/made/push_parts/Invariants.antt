use Rattle.std.proofs.Common.{◌≡◌, ◌++◌, take}
use Rattle.std.specs.List.{flat_map}
use Rattle.macho_job.specs.steps.Parts.{part_bytes}
use Rattle.macho_job.proofs.made.push_parts.Given as goal

abbrev pub invariant-loop-part : goal.invariant-loop-part
invariant-loop-part l = l.bytes.items ≡ l.initial.bytes.items ++ flat_map part_bytes (take l.part-index l.parts)
