use Rattle.std.proofs.Common.{take}
use Rattle.std.specs.List.{flat_map}
use Rattle.macho_devices.specs.Faults.{CountsOn}
use Rattle.macho_printing.specs.Printing.{Passes, held_in}
use Rattle.macho_inspect.specs.Lines.{line_text}
use Rattle.macho_inspect.proofs.lines.push_lines.Given as goal

-- the lines so far are pushed
abbrev pub invariant-loop-index : goal.invariant-loop-index
invariant-loop-index g l =
    Passes (g.O.Sink.state l.initial.out) (g.O.Sink.state l.out) (held_in l.initial.lines) (held_in l.lines)
    (flat_map (λ x. line_text (g.T.Line.pieces x)) (take l.index l.items))
    × CountsOn (g.O.Sink.state l.initial.out).failed (g.O.Sink.state l.out).failed
