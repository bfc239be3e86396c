use Rattle.std.proofs.Common.{map, filter}
use Rattle.std.specs.List.{range_with_len}
use Rattle.macho_object.specs.Objects.{strings_of, symbol_name}
use Rattle.macho_symbol_names.specs.Kept.{is_offered, offered_row}
use Rattle.macho_symbol_names.specs.steps.Notes.{AreNoted}
use Rattle.macho_symbol_names.proofs.files.dylib_notes.Given as goal

abbrev pub invariant-loop-index : goal.invariant-loop-index
invariant-loop-index l =
    AreNoted (strings_of l.file.bytes) l.notes.items
    (map (λ k. offered_row (symbol_name l.file.bytes k)) (filter (is_offered l.file.bytes) (range_with_len 0 l.index)))
