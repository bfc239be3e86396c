use Rattle.std.proofs.Common.{map, take, All, None}
use Rattle.std.specs.String.{string_bytes}
use Rattle.macho_devices.specs.Devices.{OnlyReads}
use Rattle.macho_job.specs.Search.{FileIs}
use Rattle.macho_job.proofs.search.first_held.Given as goal

-- the paths so far hold no file
abbrev pub invariant-loop-path : goal.invariant-loop-path
invariant-loop-path g l =
    All (FileIs (g.F.Paths.state l.initial.files).files None) (map string_bytes (take l.path-index l.paths))
    × OnlyReads (g.F.Paths.state l.initial.files) (g.F.Paths.state l.files)
