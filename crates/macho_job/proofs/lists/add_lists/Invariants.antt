use Rattle.std.proofs.Common.{ℕ, List, [], map, take}
use Rattle.std.specs.String.{string_bytes}
use Rattle.macho_args.specs.Settings.{settings_of}
use Rattle.macho_devices.specs.Devices.{OnlyReads}
use Rattle.macho_job.specs.steps.Gathering.{HaveLists}
use Rattle.macho_job.proofs.lists.add_lists.Given as goal

-- the lists so far are added
abbrev pub invariant-loop-list : goal.invariant-loop-list
invariant-loop-list g l =
    ((paths : List (List ℕ)) → HaveLists (g.F.Paths.state l.initial.files).files (settings_of l.args) [] paths l.initial.linker
    → HaveLists (g.F.Paths.state l.initial.files).files (settings_of l.args)
    (map (λ p. (p.0, string_bytes p.1)) (take l.list-index l.args.export_list_paths.items)) paths l.linker)
    × OnlyReads (g.F.Paths.state l.initial.files) (g.F.Paths.state l.files)
