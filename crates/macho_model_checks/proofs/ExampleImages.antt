-- Small images written out by hand, for the computed facts of this folder.
use Rattle.std.proofs.Common.{ℕ, List, [], ◌∷◌, ◌++◌, replicate}
use Rattle.macho_records.specs.declared.header.SegmentCommand.{SegmentCommand}
use Rattle.std.specs.Prelude.{codes, length, ◌+◌, ◌*◌, ◌^◌}
use Rattle.macho_model_checks.proofs.Examples.{words8, words, halves, name16}

-- The smallest image: `__PAGEZERO`, `__TEXT` with one section, the entry point and the dynamic linker, four commands of
-- 280 bytes. The section's 8 bytes stand at 0x138, behind the commands; zeros fill the page of 16,384 bytes.
unfoldable pub smallest : List ℕ
smallest =
    words (0xfeedfacf ∷ 0x0100000c ∷ 0 ∷ 2 ∷ 4 ∷ 280 ∷ 0x200085 ∷ 0 ∷ [])
    ++ words (0x19 ∷ 72 ∷ []) ++ name16 (codes "__PAGEZERO") ++ words8 (0 ∷ 0x100000000 ∷ 0 ∷ 0 ∷ []) ++ words (0 ∷ 0 ∷ 0 ∷ 0 ∷ [])
    ++ words (0x19 ∷ 152 ∷ []) ++ name16 (codes "__TEXT") ++ words8 (0x100000000 ∷ 0x4000 ∷ 0 ∷ 0x4000 ∷ []) ++ words (5 ∷ 5 ∷ 1 ∷ 0 ∷ [])
    ++ name16 (codes "__text") ++ name16 (codes "__TEXT") ++ words8 (0x100000138 ∷ 8 ∷ [])
    ++ words (0x138 ∷ 2 ∷ 0 ∷ 0 ∷ 0x80000400 ∷ 0 ∷ 0 ∷ 0 ∷ [])
    ++ words (0x80000028 ∷ 24 ∷ []) ++ words8 (0x138 ∷ 0 ∷ [])
    ++ words (0xe ∷ 32 ∷ 12 ∷ []) ++ codes "/usr/lib/dyld" ++ replicate 7 0
    ++ words (0x52800000 ∷ 0xd65f03c0 ∷ [])
    ++ replicate 16064 0

-- An image with fixups: `__PAGEZERO`, `__TEXT`, `__DATA`, one library, and a fixup table. Header 32 bytes; segments at
-- 32, 104 and 176; the library at 248, the table's command at 304; the table of 83 bytes at 320; data from 0x4000 on.
--
-- Table: header 28; at 28 the number of segments, 3, and the offset of each one's starts, 0, 0 and 16; at 44 the starts
-- of `__DATA`, with a place for two pages; at 72 the one import, library 1, name at 1; at 76 the names.
unfoldable pub image_with_fixups : ℕ → List ℕ → List ℕ → List ℕ
image_with_fixups pages starts content =
    words (0xfeedfacf ∷ 0x0100000c ∷ 0 ∷ 2 ∷ 5 ∷ 288 ∷ 0x200085 ∷ 0 ∷ [])
    ++ words (0x19 ∷ 72 ∷ []) ++ name16 (codes "__PAGEZERO") ++ words8 (0 ∷ 0x100000000 ∷ 0 ∷ 0 ∷ []) ++ words (0 ∷ 0 ∷ 0 ∷ 0 ∷ [])
    ++ words (0x19 ∷ 72 ∷ []) ++ name16 (codes "__TEXT") ++ words8 (0x100000000 ∷ 0x4000 ∷ 0 ∷ 0x4000 ∷ []) ++ words (5 ∷ 5 ∷ 0 ∷ 0 ∷ [])
    ++ words (0x19 ∷ 72 ∷ []) ++ name16 (codes "__DATA") ++ words8 (0x100004000 ∷ 0x8000 ∷ 0x4000 ∷ length content ∷ [])
    ++ words (3 ∷ 3 ∷ 0 ∷ 0 ∷ [])
    ++ words (0xc ∷ 56 ∷ 24 ∷ 2 ∷ 0x054c0000 ∷ 0x00010000 ∷ []) ++ codes "/usr/lib/libSystem.B.dylib" ++ replicate 6 0
    ++ words (0x80000034 ∷ 16 ∷ 320 ∷ 83 ∷ [])
    ++ words (0 ∷ 28 ∷ 72 ∷ 76 ∷ 1 ∷ 1 ∷ 0 ∷ [])
    ++ words (3 ∷ 0 ∷ 0 ∷ 16 ∷ [])
    ++ words ((22 + 2 * pages) ∷ []) ++ halves (0x4000 ∷ 6 ∷ []) ++ words8 (0x4000 ∷ []) ++ words (0 ∷ []) ++ halves (pages ∷ []) ++ starts
    ++ replicate 2 0
    ++ words (0x201 ∷ [])
    ++ 0 ∷ codes "_exit" ++ 0 ∷ []
    ++ replicate 15981 0
    ++ content

-- a chain word that moves with the image (from the lowest bit: target 36, high byte 8, reserved 7, next 12, bind 0), and
-- one that binds an import (ordinal 24, addend 8, reserved 19, next 12, bind 1)
abbrev pub rebase : ℕ → ℕ → ℕ → ℕ
rebase target high steps = target + high * 2 ^ 36 + steps * 2 ^ 51

abbrev pub bind : ℕ → ℕ → ℕ → ℕ
bind ordinal addend steps = ordinal + addend * 2 ^ 24 + steps * 2 ^ 51 + 2 ^ 63

-- One page of data: at 0x10 a pointer to 0x138 behind the base, then a pointer to `_exit` plus 5.
unfoldable pub one_page : List ℕ
one_page = image_with_fixups 1 (halves (0x10 ∷ 0 ∷ [])) (words8 (0x1122 ∷ 0x3344 ∷ rebase 0x138 0 2 ∷ bind 0 5 0 ∷ []))

-- Two pages of data, of the second 16 bytes: the same two words in the first, and in the second at 8 a pointer with a
-- highest byte.
unfoldable pub two_pages : List ℕ
two_pages =
    image_with_fixups 2 (halves (0x10 ∷ 8 ∷ []))
    (words8 (0x1122 ∷ 0x3344 ∷ rebase 0x138 0 2 ∷ bind 0 5 0 ∷ []) ++ replicate 16352 0 ++ words8 (0x5566 ∷ rebase 0x4000 0x7f 0 ∷ []))

-- One page of data with two words on the chain that share four bytes: the one at 0x10 leads to 0x14. The lower one's
-- upper half is the lower half of the other, which has the target 0x80000 and no next word.
unfoldable pub overlapping : List ℕ
overlapping = image_with_fixups 1 (halves (0x10 ∷ 0 ∷ [])) (words (0 ∷ 0 ∷ 0 ∷ 0 ∷ 0x138 ∷ 0x80000 ∷ 0 ∷ 0 ∷ []))

-- the command of `__DATA` in an image of one page of data, and that of `__TEXT`
abbrev pub data_of_size : ℕ → SegmentCommand
data_of_size filesize = record {
  cmd = 0x19;
  cmdsize = 72;
  segname = name16 (codes "__DATA");
  vmaddr = 0x100004000;
  vmsize = 0x8000;
  fileoff = 0x4000;
  filesize = filesize;
  maxprot = 3;
  initprot = 3;
  nsects = 0;
  flags = 0;
}

abbrev pub data_command : SegmentCommand
data_command = data_of_size 32

abbrev pub text_command : SegmentCommand
text_command = record {
  cmd = 0x19;
  cmdsize = 72;
  segname = name16 (codes "__TEXT");
  vmaddr = 0x100000000;
  vmsize = 0x4000;
  fileoff = 0;
  filesize = 0x4000;
  maxprot = 5;
  initprot = 5;
  nsects = 0;
  flags = 0;
}
