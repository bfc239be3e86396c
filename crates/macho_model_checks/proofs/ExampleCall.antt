-- The link of one object with a call of a library and a pointer, its placement and its image, written out by hand from the public
-- headers.
--
-- The object has `_main`, whose first instruction calls `_exit` of the library, and in `__data` a pointer to `_main`. So the image has
-- a stub, a slot, an import, and two words on chains: the slot's, which is bound, and the pointer's, which moves. Thirteen commands of
-- 888 bytes; the code at 0x398, the stub at 0x3a0; the slot at 0x4000, the pointer at 0x8000; from 0xc000 on the fixup table (208
-- bytes), the exports trie (14 of 22), one symbol (16), strings (7), and the signature at 0xc100.
use Rattle.std.proofs.Common.{ℕ, List, [], ◌∷◌, ◌++◌, replicate, None}
use Rattle.std.specs.Prelude.{codes}
use Rattle.macho_bytes.specs.Numbers.{big, row_bytes}
use Rattle.macho_records.specs.declared.header.SectionHeader.{SectionHeader}
use Rattle.macho_records.specs.declared.segments.TheConstants.SegmentName as name
use Rattle.macho_model.specs.declared.placed.Counts.{Counts}
use Rattle.macho_model.specs.declared.placed.PlacedSegment.{PlacedSegment}
use Rattle.macho_model.specs.declared.placed.PlacedSection.{PlacedSection}
use Rattle.macho_model.specs.declared.placed.Range64.{Range64}
use Rattle.macho_model.specs.declared.placed.Slot.{Slot}
use Rattle.macho_model.specs.declared.placed.Stub.{Stub}
use Rattle.macho_model.specs.declared.targets.Target.TheVariants as target
use Rattle.macho_model.specs.Links.{Object, Link}
use Rattle.macho_model.specs.Placement.{Placed}
use Rattle.macho_model_checks.proofs.Examples.{words8, words, halves, name16}
use Rattle.macho_model_checks.proofs.ExampleLinks.{executable_of, entry, system}
use Rattle.macho_model_checks.proofs.ExamplePlacement.{section_a, pagezero_to, text_from, header_a}

-- the object: `bl _exit`, `ret`; a pointer to `_main`. Header 32, segment with two section headers 232, symbol table 24, then from 288
-- on the code (8), the pointer (8), a relocation of each (8 and 8), symbols (32) and strings (13)
unfoldable pub calls_exit : List ℕ
calls_exit =
    words (0xfeedfacf ∷ 0x0100000c ∷ 0 ∷ 1 ∷ 2 ∷ 256 ∷ 0x2000 ∷ 0 ∷ [])
    ++ words (0x19 ∷ 232 ∷ []) ++ name16 [] ++ words8 (0 ∷ 16 ∷ 288 ∷ 16 ∷ []) ++ words (7 ∷ 7 ∷ 2 ∷ 0 ∷ [])
    ++ name16 (codes "__text") ++ name16 (codes "__TEXT") ++ words8 (0 ∷ 8 ∷ []) ++ words (288 ∷ 2 ∷ 304 ∷ 1 ∷ 0x80000400 ∷ 0 ∷ 0 ∷ 0 ∷ [])
    ++ name16 (codes "__data") ++ name16 (codes "__DATA") ++ words8 (8 ∷ 8 ∷ []) ++ words (296 ∷ 3 ∷ 312 ∷ 1 ∷ 0 ∷ 0 ∷ 0 ∷ 0 ∷ [])
    ++ words (2 ∷ 24 ∷ 320 ∷ 2 ∷ 352 ∷ 13 ∷ [])
    ++ words (0x94000000 ∷ 0xd65f03c0 ∷ []) ++ words8 (0 ∷ [])
    ++ words (0 ∷ 0x2d000001 ∷ []) ++ words (0 ∷ 0x0e000000 ∷ [])
    ++ entry 1 0x0f 1 0 0 ++ entry 7 0x01 0 0 0
    ++ 0 ∷ codes "_main" ++ 0 ∷ codes "_exit" ++ 0 ∷ []

abbrev pub calling : Link
calling = executable_of (Object calls_exit ∷ system ∷ [])

-- its sizes: MAIN 24, UUID 24, the dynamic linker 32, the library 56, and four commands of tables 72
abbrev pub counts_of_call : Counts
counts_of_call = record {
  commands = 208;
  padding = 0;
  initializers = 0;
  unwind = 0;
  imports = 1;
  import_size = 4;
  name_bytes = 6;
  trie = 22;
  symbols = 1;
  strings = 7;
  identifier = 16;
}

abbrev pub range : ℕ → ℕ → Range64
range start end = record { start = start; end = end }

abbrev pub stubs_header : SectionHeader
stubs_header = record header_a {
  sectname = name16 (codes "__stubs");
  addr = 0x1000003a0;
  size = 12;
  offset = 0x3a0;
  flags = 0x80000408;
  reserved2 = 12;
}

abbrev pub slots_header : SectionHeader
slots_header = record header_a {
  sectname = name16 (codes "__got");
  segname = name16 (codes "__DATA_CONST");
  addr = 0x100004000;
  offset = 0x4000;
  align = 3;
  flags = 6;
}

abbrev pub data_header : SectionHeader
data_header = record slots_header {
  sectname = name16 (codes "__data");
  segname = name16 (codes "__DATA");
  addr = 0x100008000;
  offset = 0x8000;
  flags = 0;
}

abbrev pub file_segment : PlacedSegment → ℕ → ℕ → PlacedSegment
file_segment s file_offset file_size = record s { size = 0x4000; file_offset = file_offset; file_size = file_size }

abbrev pub constants_segment : PlacedSegment
constants_segment = record { name = name.DATA_CONST; address = 0x100004000; size = 0x4000; file_offset = 0x4000; file_size = 0x4000 }

abbrev pub data_segment : PlacedSegment
data_segment = record { name = name.DATA; address = 0x100008000; size = 0x4000; file_offset = 0x8000; file_size = 0x4000 }

abbrev pub linkedit_segment : PlacedSegment
linkedit_segment = record { name = name.LINKEDIT; address = 0x10000c000; size = 0x4000; file_offset = 0xc000; file_size = 796 }

-- the two sections
abbrev pub code_placed : PlacedSection
code_placed = section_a 0x100000398

abbrev pub data_placed : PlacedSection
data_placed = record { file = 0; section = 1; segment = 3; address = 0x100008000 }

abbrev pub slot_placed : Slot
slot_placed = record { target = target.Import 0; address = 0x100004000 }

abbrev pub stub_placed : Stub
stub_placed = record { import = 0; address = 0x1000003a0; slot = 0 }

abbrev pub placed_call : Placed
placed_call = record {
  base = 0x100000000;
  segments = pagezero_to 0x100000000 ∷ text_from 0x100000000 0x4000 ∷ constants_segment ∷ data_segment ∷ linkedit_segment ∷ [];
  sections = code_placed ∷ data_placed ∷ [];
  commons = [];
  slots = slot_placed ∷ [];
  stubs = stub_placed ∷ [];
  output_sections = record header_a { addr = 0x100000398; offset = 0x398 } ∷ stubs_header ∷ slots_header ∷ data_header ∷ [];
  init_offsets = range 0x1000003a0 0x1000003a0;
  unwind = range 0x1000003a0 0x1000003a0;
  template = None;
  linkedit = record {
    fixups = range 0xc000 0xc0d0;
    trie = range 0xc0d0 0xc0e6;
    symtab = range 0xc0e8 0xc0f8;
    strtab = range 0xc0f8 0xc0ff;
    signature = range 0xc100 0xc31c;
  };
}

-- a UUID as it is given, and as it is written: byte 6 from 0xa6 to 0x36, byte 8 from 0x48 to 0x88
abbrev pub uuid_given : List ℕ
uuid_given = 0 ∷ 1 ∷ 2 ∷ 3 ∷ 4 ∷ 5 ∷ 0xa6 ∷ 7 ∷ 0x48 ∷ 9 ∷ 10 ∷ 11 ∷ 12 ∷ 13 ∷ 14 ∷ 15 ∷ []

-- the header and the commands, with the header's flags
unfoldable pub head_of_call : ℕ → List ℕ
head_of_call flags =
    words (0xfeedfacf ∷ 0x0100000c ∷ 0 ∷ 2 ∷ 13 ∷ 888 ∷ flags ∷ 0 ∷ [])
    ++ words (0x19 ∷ 72 ∷ []) ++ name16 (codes "__PAGEZERO") ++ words8 (0 ∷ 0x100000000 ∷ 0 ∷ 0 ∷ []) ++ words (0 ∷ 0 ∷ 0 ∷ 0 ∷ [])
    ++ words (0x19 ∷ 232 ∷ []) ++ name16 (codes "__TEXT") ++ words8 (0x100000000 ∷ 0x4000 ∷ 0 ∷ 0x4000 ∷ []) ++ words (5 ∷ 5 ∷ 2 ∷ 0 ∷ [])
    ++ name16 (codes "__text") ++ name16 (codes "__TEXT") ++ words8 (0x100000398 ∷ 8 ∷ [])
    ++ words (0x398 ∷ 2 ∷ 0 ∷ 0 ∷ 0x80000400 ∷ 0 ∷ 0 ∷ 0 ∷ [])
    ++ name16 (codes "__stubs") ++ name16 (codes "__TEXT") ++ words8 (0x1000003a0 ∷ 12 ∷ [])
    ++ words (0x3a0 ∷ 2 ∷ 0 ∷ 0 ∷ 0x80000408 ∷ 0 ∷ 12 ∷ 0 ∷ [])
    ++ words (0x19 ∷ 152 ∷ []) ++ name16 (codes "__DATA_CONST") ++ words8 (0x100004000 ∷ 0x4000 ∷ 0x4000 ∷ 0x4000 ∷ [])
    ++ words (3 ∷ 3 ∷ 1 ∷ 0x10 ∷ [])
    ++ name16 (codes "__got") ++ name16 (codes "__DATA_CONST") ++ words8 (0x100004000 ∷ 8 ∷ [])
    ++ words (0x4000 ∷ 3 ∷ 0 ∷ 0 ∷ 6 ∷ 0 ∷ 0 ∷ 0 ∷ [])
    ++ words (0x19 ∷ 152 ∷ []) ++ name16 (codes "__DATA") ++ words8 (0x100008000 ∷ 0x4000 ∷ 0x8000 ∷ 0x4000 ∷ [])
    ++ words (3 ∷ 3 ∷ 1 ∷ 0 ∷ [])
    ++ name16 (codes "__data") ++ name16 (codes "__DATA") ++ words8 (0x100008000 ∷ 8 ∷ [])
    ++ words (0x8000 ∷ 3 ∷ 0 ∷ 0 ∷ 0 ∷ 0 ∷ 0 ∷ 0 ∷ [])
    ++ words (0x19 ∷ 72 ∷ []) ++ name16 (codes "__LINKEDIT") ++ words8 (0x10000c000 ∷ 0x4000 ∷ 0xc000 ∷ 796 ∷ [])
    ++ words (1 ∷ 1 ∷ 0 ∷ 0 ∷ [])
    ++ words (0x80000028 ∷ 24 ∷ []) ++ words8 (0x398 ∷ 0 ∷ [])
    ++ words (0x1b ∷ 24 ∷ []) ++ 0 ∷ 1 ∷ 2 ∷ 3 ∷ 4 ∷ 5 ∷ 0x36 ∷ 7 ∷ 0x88 ∷ 9 ∷ 10 ∷ 11 ∷ 12 ∷ 13 ∷ 14 ∷ 15 ∷ []
    ++ words (0xe ∷ 32 ∷ 12 ∷ []) ++ codes "/usr/lib/dyld" ++ replicate 7 0
    ++ words (0xc ∷ 56 ∷ 24 ∷ 2 ∷ 0x054c0000 ∷ 0x00010000 ∷ []) ++ codes "/usr/lib/libSystem.B.dylib" ++ replicate 6 0
    ++ words (0x80000034 ∷ 16 ∷ 0xc000 ∷ 0xd0 ∷ [])
    ++ words (0x80000033 ∷ 16 ∷ 0xc0d0 ∷ 14 ∷ [])
    ++ words (2 ∷ 24 ∷ 0xc0e8 ∷ 1 ∷ 0xc0f8 ∷ 7 ∷ [])
    ++ words (0x1d ∷ 16 ∷ 0xc100 ∷ 0x21c ∷ [])

-- the fixup table: header, five segments of which the third and the fourth have starts of one page, the import, its name, zeros to the
-- end of the range
unfoldable pub fixups_of_call : List ℕ
fixups_of_call =
    words (0 ∷ 28 ∷ 100 ∷ 104 ∷ 1 ∷ 1 ∷ 0 ∷ []) ++ words (5 ∷ 0 ∷ 0 ∷ 24 ∷ 48 ∷ 0 ∷ [])
    ++ words (24 ∷ []) ++ halves (0x4000 ∷ 6 ∷ []) ++ words8 (0x4000 ∷ []) ++ words (0 ∷ []) ++ halves (1 ∷ 0 ∷ [])
    ++ words (24 ∷ []) ++ halves (0x4000 ∷ 6 ∷ []) ++ words8 (0x8000 ∷ []) ++ words (0 ∷ []) ++ halves (1 ∷ 0 ∷ [])
    ++ words (1 ∷ []) ++ codes "_exit" ++ 0 ∷ [] ++ replicate 98 0

-- the trie of `_main` at 0x398, zeros to the end of its range and to the symbols, the symbol, the strings, a zero
unfoldable pub tables_of_call : List ℕ
tables_of_call =
    0x00 ∷ 0x01 ∷ 0x5f ∷ 0x6d ∷ 0x61 ∷ 0x69 ∷ 0x6e ∷ 0x00 ∷ 0x09 ∷ 0x03 ∷ 0x00 ∷ 0x98 ∷ 0x07 ∷ 0x00 ∷ replicate 10 0
    ++ entry 1 0x0f 1 0 0x100000398 ++ 0 ∷ codes "_main" ++ 0 ∷ [] ++ 0 ∷ []

-- the signature with zeros in place of its thirteen digests: super blob, code directory, identifier; its numbers are big-endian
unfoldable pub big_words : List ℕ → List ℕ
big_words numbers = row_bytes big 4 numbers

unfoldable pub signature_of_call : List ℕ
signature_of_call =
    big_words (0xfade0cc0 ∷ 0x21c ∷ 1 ∷ 0 ∷ 20 ∷ [])
    ++ big_words (0xfade0c02 ∷ 0x208 ∷ 0x20400 ∷ 0x20002 ∷ 104 ∷ 88 ∷ 0 ∷ 13 ∷ 0xc100 ∷ []) ++ 32 ∷ 2 ∷ 0 ∷ 12 ∷ []
    ++ big_words (0 ∷ 0 ∷ 0 ∷ 0 ∷ 0 ∷ 0 ∷ 0 ∷ 0 ∷ 0 ∷ 0x4000 ∷ 0 ∷ 1 ∷ []) ++ codes "out" ++ replicate 13 0 ++ replicate 416 0

-- the image
unfoldable pub call_image : List ℕ
call_image =
    head_of_call 0x200085
    ++ words (0x94000002 ∷ 0xd65f03c0 ∷ []) ++ words (0x90000030 ∷ 0xf9400210 ∷ 0xd61f0200 ∷ []) ++ replicate 15444 0
    ++ words8 (0x8000000000000000 ∷ []) ++ replicate 16376 0
    ++ words8 (0x398 ∷ []) ++ replicate 16376 0
    ++ fixups_of_call ++ tables_of_call ++ signature_of_call
