-- Parts of the definitions of `Images`, by names that proofs use.
use Rattle.std.specs.Prelude.{ℕ, ◌*◌, List}
use Rattle.macho_records.specs.ByteLayouts.{reading, size_of}
use Rattle.macho_records.specs.Layouts.{symtab_command, symtab_entry}
use Rattle.macho_model.specs.Commands.{Command}
use Rattle.macho_model.specs.Images.{Table}

abbrev pub symbols_range : List ℕ → Command → Table
symbols_range b c
    = record { at = (reading symtab_command b c.at).symoff; size = size_of symtab_entry * (reading symtab_command b c.at).nsyms }

abbrev pub strings_range : List ℕ → Command → Table
strings_range b c = record { at = (reading symtab_command b c.at).stroff; size = (reading symtab_command b c.at).strsize }
