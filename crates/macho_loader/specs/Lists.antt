-- The lists that a view of an accepted image gives: its imports, the ranges of the tables of `__LINKEDIT`, and the words on its chains.
use Rattle.std.specs.Prelude.{◌≡◌, ℕ, ◌+◌, ◌%◌, ◌^◌, ◌<◌, true, List, map, flat_map, Contains, All, AllPairs}
use Rattle.std.specs.List.{range_with_len}
use Rattle.std.specs.Int.{w64, cast_unsigned}
use Rattle.macho_model.specs.Commands.{Command}
use Rattle.macho_model.specs.Images.{Table, table_of_command, tables_of, fixups_header, import_entry, import_name}
use Rattle.macho_model.specs.Chain.{chain_segments, IsFileWord, OnChainOf}
use Rattle.macho_model.specs.Loader.{is_bind, ordinal_of}
use Rattle.macho_model.specs.Memory.{bind_addend}
use Rattle.macho_model.specs.ReadBack.{SaysRebase}
use Rattle.macho_loader.specs.declared.imports.LoadedImport.{LoadedImport}
use Rattle.macho_loader.specs.declared.commands.LinkeditRange.{LinkeditRange}
use Rattle.macho_loader.specs.declared.chain_list.FixupLine.{FixupLine}
use Rattle.macho_loader.specs.declared.chain_list.LineKind.{LineKind}
use Rattle.macho_loader.specs.declared.chain_list.LineKind.TheVariants.{Rebase, Bind}

-- An import of an image: the number of its library from 1, its name, and its addend modulo 2 ^ 64 (`mach-o/fixup-chains.h`,
-- `struct dyld_chained_import` and `.._addend`).
pub record Import : Type 0 where
  pub library : ℕ
  pub name : List ℕ
  pub addend : ℕ

-- an entry of a table as an import
abbrev pub import_at : List ℕ → Table → ℕ → Import
import_at b t k =
    record {
      library = (import_entry b t k).library;
      name = import_name b t (import_entry b t k);
      addend = (import_entry b t k).addend;
    }

-- the imports of an image: the entries of its fixup table, in order; without a table there are none
unfoldable pub imports_of_image : List ℕ → List Import
imports_of_image b = flat_map (λ t. map (import_at b t) (range_with_len 0 (fixups_header b t).imports_count)) (tables_of b)

-- an import of the view: its addend is signed, and stands for a number modulo 2 ^ 64
abbrev pub import_of : LoadedImport → Import
import_of i = record { library = i.library; name = i.name.now; addend = cast_unsigned w64 i.addend }

-- the range of the file that a command gives, with the command's own place (`struct linkedit_data_command`)
abbrev pub range_of : List ℕ → Command → LinkeditRange
range_of b c = record { command = c.at; at = (table_of_command b c).at; size = (table_of_command b c).size }

-- The word on the chain at an address binds the import with a number, and adds to its address so much modulo 2 ^ 64: the sum of the
-- addends of the import's entry and of the word.
pub record SaysImport (b : List ℕ) (a import addend : ℕ) : Type 0 where
  pub on : OnChainOf b a
  pub word : ℕ
  pub stands : IsFileWord (chain_segments b) b a word
  pub binds : is_bind word ≡ true
  pub is : import ≡ ordinal_of word
  pub table : Table
  pub one : Contains (tables_of b) table
  pub among : import < (fixups_header b table).imports_count
  pub addend_is : addend ≡ ((import_entry b table import).addend + bind_addend word) % 2 ^ 64

-- what a line says of the word at its address: its value at slide 0, or its import
abbrev pub SaysKind : List ℕ → ℕ → LineKind → Type 0
SaysKind b a (Rebase value) = SaysRebase b a value
SaysKind b a (Bind import addend) = SaysImport b a import (cast_unsigned w64 addend)

-- THE list of an image's fixups: by rising addresses, so each once; each line is of a word on the chain and says what that word says; and
-- no word on the chain is left out.
pub record AreFixups (b : List ℕ) (lines : List FixupLine) : Type 0 where
  pub rising : AllPairs (λ x y. x.address < y.address) lines
  pub each : All (λ x. SaysKind b x.address x.kind) lines
  pub whole : (a : ℕ) → OnChainOf b a → Contains (map (λ x. x.address) lines) a
