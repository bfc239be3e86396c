-- What each group of load commands says, by the parts of the head.
use Rattle.std.specs.Prelude.{List, [], ◌∷◌, ◌++◌, if◌then◌else◌}
use Rattle.macho_records.specs.declared.constants.TheConstants.{LC_ID_DYLIB, LC_DYLD_CHAINED_FIXUPS, LC_DYLD_EXPORTS_TRIE, LC_CODE_SIGNATURE}
use Rattle.macho_model.specs.declared.placed.Linkedit.{Linkedit}
use Rattle.macho_model.specs.Segments.{list_if}
use Rattle.macho_model.specs.Head.{range_size}
use Rattle.macho_model.specs.HeadCommands.{HeadCommand, versions_for, dylinker_for, dylib_for, linkedit_for}
use Rattle.macho_commands.specs.Commands.{entry_point_said, uuid_said, symtab_said}
use Rattle.macho_head.specs.declared.commands.HeadParts.{HeadParts}

abbrev pub own_said : HeadParts → List HeadCommand
own_said h =
    list_if h.executable (entry_point_said h.entry ∷ []) ++ uuid_said h.uuid ∷ [] ++ versions_for h.versions
    ++ (if h.executable then dylinker_for else dylib_for LC_ID_DYLIB 1 0 0 h.install_name.now) ∷ []

abbrev pub tables_said : Linkedit → HeadParts → List HeadCommand
tables_said t h =
    linkedit_for LC_DYLD_CHAINED_FIXUPS t.fixups.start (range_size t.fixups) ∷ linkedit_for LC_DYLD_EXPORTS_TRIE t.trie.start h.trie_size
    ∷ symtab_said
    (record { symbols_offset = t.symtab.start; symbols = h.symbols; strings_offset = t.strtab.start; strings_size = h.strings_size })
    ∷ linkedit_for LC_CODE_SIGNATURE t.signature.start (range_size t.signature) ∷ []
