-- Parts of the definitions of `ImportTable`, by names that proofs use.
use Rattle.macho_model.specs.Fixups.{EntryOfImport}

abbrev pub no_entry : EntryOfImport
no_entry = record { import = 0; addend = 0 }
