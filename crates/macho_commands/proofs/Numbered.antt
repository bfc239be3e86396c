-- What a file says of a command goes by the command's number: with the number known, it is one reading.
--
-- The definition is a chain of tests of the number. Each number of a command that the linker writes passes one of them
-- and fails those before it, which is computed. The two numbers of libraries, and the three of ranges of `__LINKEDIT`,
-- pass one test together.
use Rattle.std.proofs.Common.{◌≡◌, ℕ, ◌⊎◌, List, inl, inr, refl}
use Rattle.macho_bytes.specs.Layouts.{reading, size_of}
use Rattle.macho_records.specs.Layouts.{segment_command, symtab_command}
use Rattle.macho_wire.specs.Layouts.{entry_point_command, dylinker_command, dylib_command, rpath_command, linkedit_data_command, uuid_command, build_version_command}
use Rattle.macho_records.specs.declared.constants.TheConstants.{LC_BUILD_VERSION, LC_ID_DYLIB, LC_LOAD_DYLIB, LC_LOAD_DYLINKER, LC_MAIN, LC_RPATH, LC_SEGMENT_64, LC_SYMTAB, LC_UUID}
use Rattle.macho_model.specs.Commands.{Command}
use Rattle.macho_model.specs.Agreement.{section_headers_at}
use Rattle.macho_model.specs.HeadCommands.{Segment, EntryPoint, Uuid, BuildVersion, Dylinker, Dylib, Rpath, LinkeditData, Symtab, behind, tools_at, command_in}
use Rattle.macho_commands.specs.steps.Writing.{IsLinkedit}

pub in_segment : (b : List ℕ) (c : Command) → c.number ≡ LC_SEGMENT_64
    → command_in b c ≡ Segment (reading segment_command b c.at) (section_headers_at b c.at)
unfolding command_in
in_segment b c is = rw is refl

pub in_entry_point : (b : List ℕ) (c : Command) → c.number ≡ LC_MAIN → command_in b c ≡ EntryPoint (reading entry_point_command b c.at)
unfolding command_in
in_entry_point b c is = rw is refl

pub in_uuid : (b : List ℕ) (c : Command) → c.number ≡ LC_UUID → command_in b c ≡ Uuid (reading uuid_command b c.at)
unfolding command_in
in_uuid b c is = rw is refl

pub in_build_version : (b : List ℕ) (c : Command) → c.number ≡ LC_BUILD_VERSION
    → command_in b c ≡ BuildVersion (reading build_version_command b c.at) (tools_at b c.at)
unfolding command_in
in_build_version b c is = rw is refl

pub in_dylinker : (b : List ℕ) (c : Command) → c.number ≡ LC_LOAD_DYLINKER
    → command_in b c ≡ Dylinker (reading dylinker_command b c.at) (behind b c (size_of dylinker_command))
unfolding command_in
in_dylinker b c is = rw is refl

pub in_dylib : (b : List ℕ) (c : Command) → (c.number ≡ LC_ID_DYLIB) ⊎ (c.number ≡ LC_LOAD_DYLIB)
    → command_in b c ≡ Dylib (reading dylib_command b c.at) (behind b c (size_of dylib_command))
unfolding command_in
in_dylib b c (inl is) = rw is refl
in_dylib b c (inr is) = rw is refl

pub in_rpath : (b : List ℕ) (c : Command) → c.number ≡ LC_RPATH → command_in b c ≡ Rpath (reading rpath_command b c.at)
    (behind b c (size_of rpath_command))
unfolding command_in
in_rpath b c is = rw is refl

pub in_symtab : (b : List ℕ) (c : Command) → c.number ≡ LC_SYMTAB → command_in b c ≡ Symtab (reading symtab_command b c.at)
unfolding command_in
in_symtab b c is = rw is refl

pub in_linkedit : (b : List ℕ) (c : Command) → IsLinkedit c.number → command_in b c ≡ LinkeditData (reading linkedit_data_command b c.at)
unfolding command_in
in_linkedit b c (inl is) = rw is refl
in_linkedit b c (inr (inl is)) = rw is refl
in_linkedit b c (inr (inr is)) = rw is refl
