-- Small inputs written out by hand, as the public headers lay them out, for the computed facts of this folder.
use Rattle.std.proofs.Common.{ℕ, List, [], ◌∷◌, ◌++◌, replicate}
use Rattle.std.specs.Prelude.{codes, length, take, drop, ◌+◌, ◌*◌, ◌-◌}
use Rattle.macho_bytes.specs.Numbers.{little, row_bytes}

-- numbers of 8, 4, 2 and 1 bytes, one after the other
unfoldable pub words8 : List ℕ → List ℕ
words8 numbers = row_bytes little 8 numbers

unfoldable pub words : List ℕ → List ℕ
words numbers = row_bytes little 4 numbers

unfoldable pub halves : List ℕ → List ℕ
halves numbers = row_bytes little 2 numbers

-- a name in a field of 16 bytes
unfoldable pub name16 : List ℕ → List ℕ
name16 name = name ++ replicate (16 - length name) 0

-- An object with one section `__TEXT,__text`, the instructions `mov w0, #0` and `ret`, and the global `_main` at its
-- start. Header 32, segment with one section header 152, symbol table 24, text 8, one symbol 16, strings 7 bytes.
unfoldable pub object_a : List ℕ
object_a =
    words (0xfeedfacf ∷ 0x0100000c ∷ 0 ∷ 1 ∷ 2 ∷ 176 ∷ 0x2000 ∷ 0 ∷ [])
    ++ words (0x19 ∷ 152 ∷ []) ++ name16 [] ++ words8 (0 ∷ 8 ∷ 208 ∷ 8 ∷ []) ++ words (7 ∷ 7 ∷ 1 ∷ 0 ∷ [])
    ++ name16 (codes "__text") ++ name16 (codes "__TEXT") ++ words8 (0 ∷ 8 ∷ []) ++ words (208 ∷ 2 ∷ 0 ∷ 0 ∷ 0x80000400 ∷ 0 ∷ 0 ∷ 0 ∷ [])
    ++ words (2 ∷ 24 ∷ 216 ∷ 1 ∷ 232 ∷ 7 ∷ [])
    ++ 0x00 ∷ 0x00 ∷ 0x80 ∷ 0x52 ∷ 0xc0 ∷ 0x03 ∷ 0x5f ∷ 0xd6 ∷ []
    ++ 1 ∷ 0 ∷ 0 ∷ 0 ∷ 0x0f ∷ 1 ∷ 0 ∷ 0 ∷ 0 ∷ 0 ∷ 0 ∷ 0 ∷ 0 ∷ 0 ∷ 0 ∷ 0 ∷ []
    ++ 0 ∷ codes "_main" ++ 0 ∷ []

-- An object of four sections and five symbols, with every kind of record: a call of an undefined function, a signed
-- difference of four bytes, a pointer to a common, zerofill, and thread-local data.
--
-- Header 32 bytes; segment with four section headers 392, symbol table 24, UUID 24; from 472 on the data of `__text`
-- (8), `__data` (16) and `__thread_data` (4); from 500 on relocations (1 and 3); symbols from 532, strings from 612.
unfoldable pub object_b : List ℕ
object_b =
    words (0xfeedfacf ∷ 0x0100000c ∷ 0 ∷ 1 ∷ 3 ∷ 440 ∷ 0x2000 ∷ 0 ∷ [])
    ++ words (0x19 ∷ 392 ∷ []) ++ name16 [] ++ words8 (0 ∷ 44 ∷ 472 ∷ 28 ∷ []) ++ words (7 ∷ 7 ∷ 4 ∷ 0 ∷ [])
    ++ name16 (codes "__text") ++ name16 (codes "__TEXT") ++ words8 (0 ∷ 8 ∷ []) ++ words (472 ∷ 2 ∷ 500 ∷ 1 ∷ 0x80000400 ∷ 0 ∷ 0 ∷ 0 ∷ [])
    ++ name16 (codes "__data") ++ name16 (codes "__DATA") ++ words8 (8 ∷ 16 ∷ []) ++ words (480 ∷ 3 ∷ 508 ∷ 3 ∷ 0 ∷ 0 ∷ 0 ∷ 0 ∷ [])
    ++ name16 (codes "__bss") ++ name16 (codes "__DATA") ++ words8 (24 ∷ 16 ∷ []) ++ words (0 ∷ 3 ∷ 0 ∷ 0 ∷ 1 ∷ 0 ∷ 0 ∷ 0 ∷ [])
    ++ name16 (codes "__thread_data") ++ name16 (codes "__DATA") ++ words8 (40 ∷ 4 ∷ []) ++ words (496 ∷ 2 ∷ 0 ∷ 0 ∷ 0x11 ∷ 0 ∷ 0 ∷ 0 ∷ [])
    ++ words (2 ∷ 24 ∷ 532 ∷ 5 ∷ 612 ∷ 19 ∷ [])
    ++ words (0x1b ∷ 24 ∷ 0 ∷ 0 ∷ 0 ∷ 0 ∷ [])
    ++ words (0x94000000 ∷ 0xd65f03c0 ∷ [])
    ++ words (0xfffffffc ∷ 0 ∷ 0 ∷ 0 ∷ [])
    ++ words (7 ∷ [])
    ++ words (0 ∷ 0x2d000004 ∷ [])
    ++ words (0 ∷ 0x1c000000 ∷ 0 ∷ 0x0c000002 ∷ 8 ∷ 0x0e000001 ∷ [])
    ++ words (1 ∷ []) ++ 0x0f ∷ 1 ∷ halves (0 ∷ []) ++ words8 (0 ∷ [])
    ++ words (7 ∷ []) ++ 0x01 ∷ 0 ∷ halves (0x200 ∷ []) ++ words8 (4 ∷ [])
    ++ words (10 ∷ []) ++ 0x0e ∷ 2 ∷ halves (0 ∷ []) ++ words8 (8 ∷ [])
    ++ words (0 ∷ []) ++ 0x02 ∷ 0 ∷ halves (0 ∷ []) ++ words8 (42 ∷ [])
    ++ words (13 ∷ []) ++ 0x01 ∷ 0 ∷ halves (0 ∷ []) ++ words8 (0 ∷ [])
    ++ 0 ∷ codes "_main" ++ 0 ∷ codes "_c" ++ 0 ∷ codes "_x" ++ 0 ∷ codes "_exit" ++ 0 ∷ []

-- the places of its records: section headers, relocations, symbols
abbrev pub header_b : ℕ → ℕ
header_b section = 104 + 80 * section

abbrev pub relocation_b : ℕ → ℕ
relocation_b number = 500 + 8 * number

abbrev pub symbol_b : ℕ → ℕ
symbol_b number = 532 + 16 * number

-- an example with other bytes at a place
unfoldable pub changed : List ℕ → ℕ → List ℕ → List ℕ
changed bytes at text = take at bytes ++ text ++ drop (at + length text) bytes
