-- The objects of `-generate N`: N functions, each of which calls the next one, and beside each a pointer to it.
use Rattle.std.specs.Prelude.{ℕ, ◌+◌, ◌*◌, ◌==◌, if◌then◌else◌, List, [], ◌∷◌, ◌++◌, codes, length, decimal, replicate, ◌^◌}
use Rattle.macho_bytes.specs.Numbers.{le_bytes, row_bytes, little}
use Rattle.macho_records.specs.Segments.{name_field}
use Rattle.macho_records.specs.declared.constants.TheConstants.{ARM64_RELOC_BRANCH26, ARM64_RELOC_UNSIGNED, CPU_TYPE_ARM64, LC_SEGMENT_64, LC_SYMTAB, MH_MAGIC_64, MH_OBJECT, MH_SUBSECTIONS_VIA_SYMBOLS, N_EXT, N_SECT, N_UNDF, S_ATTR_PURE_INSTRUCTIONS, S_ATTR_SOME_INSTRUCTIONS}

-- the name of the i-th function: the first is the entry
abbrev pub function_name : ℕ → List ℕ
function_name i = if i == 0 then codes "_main" else codes "_f" ++ decimal i

-- a section of 8 bytes: its names and flags, its address in the object and its alignment, and its relocations
abbrev pub made_section : (name segment : List ℕ) → (flags address align relocations count : ℕ) → List ℕ
made_section name segment flags address align relocations count =
    name_field name ++ name_field segment ++ row_bytes little 8 (address ∷ 8 ∷ [])
    ++ row_bytes little 4 ((288 + address) ∷ align ∷ relocations ∷ count ∷ flags ∷ 0 ∷ 0 ∷ 0 ∷ [])

-- a relocation at the start of a section, of a symbol by its number: type, width as an exponent of 2, and 1 where it is relative
abbrev pub made_relocation : (type length pcrel symbol : ℕ) → List ℕ
made_relocation type length pcrel symbol =
    row_bytes little 4 (0 ∷ (symbol + pcrel * 2 ^ 24 + length * 2 ^ 25 + 2 ^ 27 + type * 2 ^ 28) ∷ [])

-- a symbol by the place of its name, its type, its section and its value
abbrev pub made_symbol : (name type section value : ℕ) → List ℕ
made_symbol name type section value =
    le_bytes 4 name ++ row_bytes little 1 (type ∷ section ∷ []) ++ le_bytes 2 0 ++ le_bytes 8 value

-- An object whose function makes so many calls, one or none, and which has a pointer to it; with the names of the function, of the
-- pointer and of the called function (`mach-o/loader.h`, `mach-o/reloc.h`, `mach-o/nlist.h`). The header is for arm64, with two commands:
-- that of a segment with no name and two sections, 16 bytes at file offset 288, and that of the symbol table. Behind them stand the
-- contents of the sections: `b` or `mov w0, #0`, `ret`, and the pointer; then a branch to symbol 2 where there is a call, and a pointer
-- to symbol 0; then the function, the pointer and the called function, which is not defined here; then the names.
unfoldable pub object_with : (calls : ℕ) → (name pointer next : List ℕ) → List ℕ
object_with calls name pointer next =
    let if_called : List ℕ → List ℕ = λ bytes. if calls == 0 then [] else bytes in
    let strings : List ℕ = 0 ∷ name ++ 0 ∷ pointer ++ 0 ∷ if_called (next ++ 0 ∷ []) in
    row_bytes little 4 (MH_MAGIC_64 ∷ CPU_TYPE_ARM64 ∷ 0 ∷ MH_OBJECT ∷ 2 ∷ 256 ∷ MH_SUBSECTIONS_VIA_SYMBOLS ∷ 0 ∷ [])
    ++ row_bytes little 4 (LC_SEGMENT_64 ∷ 232 ∷ []) ++ replicate 16 0 ++ row_bytes little 8 (0 ∷ 16 ∷ 288 ∷ 16 ∷ [])
    ++ row_bytes little 4 (7 ∷ 7 ∷ 2 ∷ 0 ∷ [])
    ++ made_section (codes "__text") (codes "__TEXT") (S_ATTR_PURE_INSTRUCTIONS + S_ATTR_SOME_INSTRUCTIONS) 0 2 (304 * calls) calls
    ++ made_section (codes "__data") (codes "__DATA") 0 8 3 (304 + 8 * calls) 1
    ++ row_bytes little 4 (LC_SYMTAB ∷ 24 ∷ (312 + 8 * calls) ∷ (2 + calls) ∷ (344 + 24 * calls) ∷ length strings ∷ [])
    ++ le_bytes 4 (if calls == 0 then 0x52800000 else 0x14000000) ++ le_bytes 4 0xd65f03c0 ++ le_bytes 8 0
    ++ if_called (made_relocation ARM64_RELOC_BRANCH26 2 1 2) ++ made_relocation ARM64_RELOC_UNSIGNED 3 0 0
    ++ made_symbol 1 (N_SECT + N_EXT) 1 0 ++ made_symbol (2 + length name) (N_SECT + N_EXT) 2 8
    ++ if_called (made_symbol (3 + length name + length pointer) (N_UNDF + N_EXT) 0 0) ++ strings

-- THE i-th object of n: the last one makes no call
unfoldable pub generated_object : ℕ → ℕ → List ℕ
generated_object i n = object_with (if i + 1 == n then 0 else 1) (function_name i) (codes "_p" ++ decimal i) (function_name (i + 1))

-- the path that it is told by
abbrev pub generated_path : ℕ → List ℕ
generated_path i = codes "<generated " ++ (decimal i ++ codes ">")
