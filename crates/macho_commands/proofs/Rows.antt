-- How many bytes the load commands of three images have, computed.
--
-- The first is an executable of one section, the second one with stubs, slots and a library, the third a dynamic library.
-- What the commands say of addresses and ranges doesn't count, so it is any.
use Rattle.std.proofs.Common.{◌≡◌, ℕ, List, [], ◌∷◌, refl}
use Rattle.std.specs.Prelude.{sum_by, codes}
use Rattle.macho_records.specs.declared.constants.TheConstants.{LC_CODE_SIGNATURE, LC_DYLD_CHAINED_FIXUPS, LC_DYLD_EXPORTS_TRIE, LC_ID_DYLIB}
use Rattle.macho_records.specs.declared.header.SectionHeader.{SectionHeader}
use Rattle.macho_model.specs.declared.placed.PlacedSegment.{PlacedSegment}
use Rattle.macho_model.specs.HeadCommands.{HeadCommand, size_said, dylinker_for, dylib_for, needed_dylib_for, linkedit_for}
use Rattle.macho_commands.specs.declared.command.SymbolTable.{SymbolTable}
use Rattle.macho_commands.specs.Commands.{segment_said, entry_point_said, uuid_said, symtab_said}

-- the four tables of `__LINKEDIT`
tables : ℕ → SymbolTable → List HeadCommand
tables n t = linkedit_for LC_DYLD_CHAINED_FIXUPS n n ∷ linkedit_for LC_DYLD_EXPORTS_TRIE n n ∷ symtab_said t
    ∷ linkedit_for LC_CODE_SIGNATURE n n ∷ []

executable : (s : PlacedSegment) (h : SectionHeader) (uuid : List ℕ) (n : ℕ) (t : SymbolTable)
    → sum_by size_said (segment_said s 0 0 [] ∷ segment_said s 5 0 (h ∷ []) ∷ segment_said s 1 0 [] ∷ entry_point_said n ∷ uuid_said uuid
    ∷ dylinker_for ∷ tables n t) ≡ 448
unfolding tables
executable s h uuid n t = refl

with_import : (s : PlacedSegment) (h : SectionHeader) (uuid : List ℕ) (n : ℕ) (t : SymbolTable)
    → sum_by size_said (segment_said s 0 0 [] ∷ segment_said s 5 0 (h ∷ h ∷ []) ∷ segment_said s 3 16 (h ∷ []) ∷ segment_said s 1 0 []
    ∷ entry_point_said n
    ∷ uuid_said uuid ∷ dylinker_for ∷ needed_dylib_for (codes "/usr/lib/libSystem.B.dylib") ∷ tables n t) ≡
    736
unfolding tables
with_import s h uuid n t = refl

library : (s : PlacedSegment) (h : SectionHeader) (uuid : List ℕ) (n : ℕ) (t : SymbolTable)
    → sum_by size_said (segment_said s 5 0 (h ∷ []) ∷ segment_said s 1 0 [] ∷ uuid_said uuid ∷ dylib_for LC_ID_DYLIB 1 0 0 (codes "out")
    ∷ tables n t) ≡ 352
unfolding tables
library s h uuid n t = refl
