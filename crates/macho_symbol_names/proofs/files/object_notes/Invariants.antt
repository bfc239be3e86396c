use Rattle.std.proofs.Common.{map}
use Rattle.std.specs.List.{range_with_len}
use Rattle.macho_object.specs.Objects.{strings_of}
use Rattle.macho_symbol_names.specs.Kept.{row_of_symbol}
use Rattle.macho_symbol_names.specs.steps.Notes.{AreNoted}
use Rattle.macho_symbol_names.proofs.files.object_notes.Given as goal

abbrev pub invariant-loop-index : goal.invariant-loop-index
invariant-loop-index l =
    AreNoted (strings_of l.file.bytes) l.notes.items (map (row_of_symbol l.file.bytes) (range_with_len 0 l.index))
