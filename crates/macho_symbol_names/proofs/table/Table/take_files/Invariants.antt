use Rattle.macho_symbol_names.specs.Events.{events_of}
use Rattle.macho_symbol_names.specs.Found.{AreFound}
use Rattle.macho_symbol_names.specs.Tables.{heads_of, IsKnown}
use Rattle.macho_symbol_names.proofs.table.Table.take_files.Given as goal

abbrev pub invariant-loop-file : goal.invariant-loop-file
invariant-loop-file l =
    record {
      known : IsKnown l.files (heads_of l.self) l.self.entries.items (events_of l.files l.file);
      found : AreFound l.files l.self.entries.items l.file l.found.items;
    }
