use Rattle.std.proofs.Common.{◌≡◌, ◌++◌, take}
use Rattle.std.specs.String.{string_bytes}
use Rattle.macho_stub_lines.specs.Lists.{texts}
use Rattle.macho_tbd.specs.steps.Pieces.{others_of}
use Rattle.macho_tbd.proofs.text.push_others.Given as goal

abbrev pub invariant-loop-name : goal.invariant-loop-name
invariant-loop-name l = string_bytes l.text ≡ string_bytes l.initial.text ++ others_of (texts (take l.name-index l.names))
