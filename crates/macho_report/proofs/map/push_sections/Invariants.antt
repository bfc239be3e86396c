use Rattle.std.proofs.Common.{take, IfSome}
use Rattle.std.specs.List.{flat_map}
use Rattle.macho_devices.specs.Faults.{CountsOn}
use Rattle.macho_job.specs.Names.{names_of}
use Rattle.macho_report.specs.Lines.{map_line}
use Rattle.macho_printing.specs.Printing.{Passes, held_in}
use Rattle.macho_report.specs.steps.Sections.{IsViewed}
use Rattle.macho_report.proofs.map.push_sections.Given as goal

-- the lines so far are pushed, and the last view is of an object of the link
abbrev pub invariant-loop-index : goal.invariant-loop-index
invariant-loop-index g l =
    Passes (g.O.Sink.state l.initial.out) (g.O.Sink.state l.out) (held_in l.initial.lines) (held_in l.lines)
    (flat_map (map_line l.linker (names_of l.names)) (take l.index l.sections))
    × CountsOn (g.O.Sink.state l.initial.out).failed (g.O.Sink.state l.out).failed
    × IfSome l.last (λ v. IsViewed l.linker v.file v.object)
