use Rattle.std.proofs.Common.{map, take}
use Rattle.macho_args.specs.Settings.{settings_of, input_of}
use Rattle.macho_devices.specs.Devices.{OnlyReads}
use Rattle.macho_job.specs.steps.Gathering.{HaveInputs}
use Rattle.macho_job.specs.Names.{names_of}
use Rattle.macho_job.proofs.inputs.add_inputs.Given as goal

-- the inputs so far are taken
abbrev pub invariant-loop-spec : goal.invariant-loop-spec
invariant-loop-spec g l =
    HaveInputs (g.F.Paths.state l.initial.files).files (settings_of l.args) (map input_of (take l.spec-index l.args.inputs.items))
    (names_of l.names) l.linker
    × OnlyReads (g.F.Paths.state l.initial.files) (g.F.Paths.state l.files)
