use Rattle.std.proofs.Common.{◌≡◌, length}
use denote.Text.{Utf8}
use denote.Shadow.{shadow}
use Rattle.macho_stub_lines.specs.Lists.{texts, list_part, with_front}
use Rattle.macho_stub_lines.proofs.list.list_part.Given as goal

-- what was read, in front of the reading of the rest, is the reading of the line
abbrev pub invariant-loop-rest : goal.invariant-loop-rest
invariant-loop-rest l = shadow (Utf8 l.rest)
    × (with_front (texts l.names.items) (list_part l.line l.expect 0 l.rest)
    ≡ with_front (texts l.fn.part.names.items) (list_part l.line l.fn.part.expect 0 l.text))

abbrev pub decreases-loop-rest : goal.decreases-loop-rest
decreases-loop-rest l = length l.rest
