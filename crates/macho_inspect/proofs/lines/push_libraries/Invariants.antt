use Rattle.std.proofs.Common.{take, map}
use Rattle.std.specs.List.{flat_map, enumerate_from}
use Rattle.macho_devices.specs.Faults.{CountsOn}
use Rattle.macho_printing.specs.Printing.{Passes, held_in}
use Rattle.macho_inspect.specs.Lines.{library_pieces, line_text}
use Rattle.macho_inspect.proofs.lines.push_libraries.Given as goal

-- the lines so far are pushed
abbrev pub invariant-loop-index : goal.invariant-loop-index
invariant-loop-index g l =
    Passes (g.O.Sink.state l.initial.out) (g.O.Sink.state l.out) (held_in l.initial.lines) (held_in l.lines)
    (flat_map (λ library. line_text (library_pieces library)) (take l.index (enumerate_from 1 (map (λ path. path.items) l.paths))))
    × CountsOn (g.O.Sink.state l.initial.out).failed (g.O.Sink.state l.out).failed
