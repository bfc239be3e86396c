use Rattle.std.proofs.Common.{take}
use Rattle.std.specs.List.{flat_map}
use Rattle.macho_devices.specs.Faults.{CountsOn}
use Rattle.macho_printing.specs.Printing.{Passes, held_in, piece_text}
use Rattle.macho_printing.proofs.pieces.push_pieces.Given as goal

-- the pieces so far are pushed
abbrev pub invariant-loop-index : goal.invariant-loop-index
invariant-loop-index g l =
    Passes (g.S.Sink.state l.initial.sink) (g.S.Sink.state l.sink) (held_in l.initial.lines) (held_in l.lines)
    (flat_map piece_text (take l.index l.pieces))
    × CountsOn (g.S.Sink.state l.initial.sink).failed (g.S.Sink.state l.sink).failed
