use Rattle.std.proofs.Common.{◌≡◌, ◌++◌}
use Rattle.macho_consumed.specs.steps.Entries.{EntriesFit, EntriesLead, rows_in}
use Rattle.macho_consumed.proofs.entries.add_entries.Given as goal

abbrev pub invariant-loop-entry : goal.invariant-loop-entry
invariant-loop-entry l = record {
  fit : EntriesFit l.file.bytes l.section l.entry;
  rows : l.rows.items ≡ l.initial.rows.items ++ rows_in l.file.bytes l.number l.section l.entry;
  lead : EntriesLead l.symbols l.file.bytes l.number l.section l.entry;
}
