use Rattle.std.proofs.Common.{List, map, take, ◌++◌}
use Rattle.macho_stub_lines.specs.Lists.{texts}
use Rattle.macho_symbol_names.specs.Kept.{Row, offered_row}
use Rattle.macho_symbol_names.specs.steps.Notes.{AreNoted}
use Rattle.macho_symbol_names.proofs.files.offer_names.Given as goal

abbrev pub invariant-loop-name : goal.invariant-loop-name
invariant-loop-name l =
    (rows : List Row) → AreNoted l.initial.text.items l.initial.notes.items rows
    → AreNoted l.text.items l.notes.items (rows ++ map offered_row (texts (take l.name-index l.names)))
