use Rattle.std.specs.Option.{option_copied}
use Rattle.macho_symbols.specs.steps.Exporting.{AreFound, is_exported_in}
use Rattle.macho_symbols.specs.Kept.{noted_of}
use Rattle.macho_symbols.proofs.solved.Solved.exported_names.Given as goal

abbrev pub invariant-loop-number : goal.invariant-loop-number
invariant-loop-number l =
    AreFound l.self.files.items l.self.table.entries.items
    (is_exported_in l.self.files.items (noted_of l.self.imports.items) (option_copied l.fn.list)) l.number l.names.items
