-- What the definitions of lists say of the commands and the tables of a small file, by computing. Its bytes are written by hand after the
-- records of the formats; it has no segments, so it is no whole image.
use Rattle.std.proofs.Common.{◌≡◌, ℕ, ◌-◌, ◌^◌, List, [], ◌∷◌, ◌++◌, map, refl}
use Rattle.std.specs.Prelude.{codes}
use Rattle.macho_bytes.specs.Numbers.{le_at}
use Rattle.macho_bytes.specs.Layouts.{reading}
use Rattle.macho_records.specs.declared.constants.TheConstants.{LC_DYLD_EXPORTS_TRIE, LC_CODE_SIGNATURE}
use Rattle.macho_model.specs.Commands.{header_of, commands_from, commands_of, numbered}
use Rattle.macho_model.specs.Images.{tables_of}
use Rattle.macho_loader.specs.Lists.{imports_of_image, range_of}

-- a number of four bytes below 256, and of two bytes
abbrev word : ℕ → List ℕ
word n = n ∷ 0 ∷ 0 ∷ 0 ∷ []

-- The header with two commands; the command of a fixup table of 51 bytes at 64, and that of an exports trie of 8 bytes at 120.
abbrev commands : List ℕ
commands =
    (0xcf ∷ 0xfa ∷ 0xed ∷ 0xfe ∷ 0x0c ∷ 0 ∷ 0 ∷ 1 ∷ []) ++ word 0 ++ word 2 ++ word 2 ++ word 32 ++ word 0 ++ word 0
    ++ (0x34 ∷ 0 ∷ 0 ∷ 0x80 ∷ []) ++ word 16 ++ word 64 ++ word 51
    ++ (0x33 ∷ 0 ∷ 0 ∷ 0x80 ∷ []) ++ word 16 ++ word 120 ++ word 8

-- The table: version 0, starts and imports at 28, names at 44, two imports in the format with addends; entries of `_a` of library 1 with
-- addend 16, and of `_b` of library 2 with addend -1.
abbrev table : List ℕ
table =
    word 0 ++ word 28 ++ word 28 ++ word 44 ++ word 2 ++ word 2 ++ word 0
    ++ (1 ∷ 2 ∷ 0 ∷ 0 ∷ []) ++ word 16 ++ (2 ∷ 8 ∷ 0 ∷ 0 ∷ []) ++ (0xff ∷ 0xff ∷ 0xff ∷ 0xff ∷ [])
    ++ (0 ∷ []) ++ codes "_a" ++ (0 ∷ []) ++ codes "_b" ++ (0 ∷ [])

unfoldable pub file : List ℕ
file = commands ++ table

pub imports_of_file : imports_of_image file ≡
    record { library = 1; name = codes "_a"; addend = 16 } ∷ record { library = 2; name = codes "_b"; addend = 2 ^ 64 - 1 } ∷ []
unfolding imports_of_image tables_of commands_of commands_from header_of reading le_at file
imports_of_file = refl

-- the command at 48 gives the trie; none gives a signature
pub ranges_of_file : (map (range_of file) (numbered LC_DYLD_EXPORTS_TRIE file) ≡ record { command = 48; at = 120; size = 8 } ∷ [])
    × (map (range_of file) (numbered LC_CODE_SIGNATURE file) ≡ [])
unfolding commands_of commands_from header_of reading le_at file
ranges_of_file = (refl, refl)
