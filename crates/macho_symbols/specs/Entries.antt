-- Entries of the import table that pointers need of their own.
use Rattle.macho_model.specs.Fixups.{EntryOfImport}
use Rattle.macho_symbols.specs.declared.solved.OwnEntry.{OwnEntry}

-- such an entry, as the model has it
abbrev pub entry_of : OwnEntry → EntryOfImport
entry_of o = record { import = o.import; addend = o.addend }
