use Rattle.std.proofs.Common.{◌≡◌, drop}
use Rattle.macho_stub_lines.specs.Bytes.{has_late_control_after}
use Rattle.macho_stub_lines.proofs.bytes.has_late_control.Given as goal

-- what is left has one exactly where the whole has
abbrev pub invariant-loop-byte : goal.invariant-loop-byte
invariant-loop-byte l = has_late_control_after l.last (drop l.byte-index l.bytes) ≡ has_late_control_after 0 l.bytes
