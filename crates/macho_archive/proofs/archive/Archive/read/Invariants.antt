use Rattle.std.proofs.Common.{◌-◌, length}
use Rattle.macho_archive.specs.steps.Reads.{HasRead}
use Rattle.macho_archive.proofs.archive.Archive.read.Given as goal

abbrev pub invariant-loop-reading : goal.invariant-loop-reading
invariant-loop-reading l = HasRead l.bytes l.reading

abbrev pub decreases-loop-reading : goal.decreases-loop-reading
decreases-loop-reading l = length l.bytes - l.reading.at
