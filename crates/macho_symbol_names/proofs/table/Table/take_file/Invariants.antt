use Rattle.macho_symbol_names.specs.Events.{events_of_file}
use Rattle.macho_symbol_names.specs.Found.{AreFoundIn}
use Rattle.macho_symbol_names.specs.steps.Tables.{HaveGrown, TakesIn}
use Rattle.macho_symbol_names.specs.Tables.{heads_of, IsTable}
use Rattle.macho_symbol_names.proofs.table.Table.take_file.Given as goal

abbrev pub invariant-loop-row : goal.invariant-loop-row
invariant-loop-row l =
    record {
      table : IsTable l.files (heads_of l.self) l.self.entries.items;
      taken : TakesIn l.files (heads_of l.initial.self) l.initial.self.entries.items (heads_of l.self) l.self.entries.items
          (events_of_file l.files l.file l.row);
      grown : HaveGrown l.files l.initial.self.entries.items l.self.entries.items;
      found : AreFoundIn l.files l.self.entries.items l.file l.row l.found.items;
    }
