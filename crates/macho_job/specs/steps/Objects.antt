-- The bytes of a made object as they are written: of one whose function calls the next one, and of the last one.
use Rattle.std.specs.Prelude.{ℕ, ◌+◌, List, [], ◌∷◌, ◌++◌, codes, length, replicate}
use Rattle.std.specs.List.{flat_map}
use Rattle.macho_bytes.specs.Numbers.{le_bytes}

-- numbers of four and of eight bytes, one behind the other
abbrev pub words : List ℕ → List ℕ
words numbers = flat_map (le_bytes 4) numbers

abbrev pub longs : List ℕ → List ℕ
longs numbers = flat_map (le_bytes 8) numbers

-- texts, one behind the other
abbrev pub joined_all : List (List ℕ) → List ℕ
joined_all texts = flat_map (λ text. text) texts

-- the names of both sections and their segments, filled with zeros
abbrev pub TEXT_NAMES : List ℕ
TEXT_NAMES = codes "__text" ++ replicate 10 0 ++ codes "__TEXT" ++ replicate 10 0

abbrev pub DATA_NAMES : List ℕ
DATA_NAMES = codes "__data" ++ replicate 10 0 ++ codes "__DATA" ++ replicate 10 0

-- `mach-o/loader.h`: an object for arm64 with two load commands of 256 bytes (MH_SUBSECTIONS_VIA_SYMBOLS); its segment has no
-- name and two sections, 16 bytes at file offset 288
abbrev pub OBJECT_HEAD : List (List ℕ)
OBJECT_HEAD =
    words (0xfeedfacf ∷ 0x100000c ∷ 0 ∷ 1 ∷ 2 ∷ 256 ∷ 0x2000 ∷ 0 ∷ 0x19 ∷ 232 ∷ [])
    ∷ replicate 16 0
    ∷ longs (0 ∷ 16 ∷ 288 ∷ 16 ∷ [])
    ∷ words (7 ∷ 7 ∷ 2 ∷ 0 ∷ [])
    ∷ []

-- The section headers of an object whose function calls the next one, and of the last object, which has no relocation there.
abbrev pub CALLING_SECTIONS : List (List ℕ)
CALLING_SECTIONS =
    TEXT_NAMES ∷ longs (0 ∷ 8 ∷ []) ∷ words (288 ∷ 2 ∷ 304 ∷ 1 ∷ 0x80000400 ∷ 0 ∷ 0 ∷ 0 ∷ [])
    ∷ DATA_NAMES ∷ longs (8 ∷ 8 ∷ []) ∷ words (296 ∷ 3 ∷ 312 ∷ 1 ∷ 0 ∷ 0 ∷ 0 ∷ 0 ∷ []) ∷ []

abbrev pub LAST_SECTIONS : List (List ℕ)
LAST_SECTIONS =
    TEXT_NAMES ∷ longs (0 ∷ 8 ∷ []) ∷ words (288 ∷ 2 ∷ 0 ∷ 0 ∷ 0x80000400 ∷ 0 ∷ 0 ∷ 0 ∷ [])
    ∷ DATA_NAMES ∷ longs (8 ∷ 8 ∷ []) ∷ words (296 ∷ 3 ∷ 304 ∷ 1 ∷ 0 ∷ 0 ∷ 0 ∷ 0 ∷ []) ∷ []

-- An object whose function calls the next one, behind its head: the sections; the symbol table command; `b`, `ret` and the pointer,
-- with a branch to symbol 2 and a pointer to symbol 0 (`mach-o/reloc.h`); the function, the pointer and the next function, which
-- is not defined here, each by the place of its name, type and section, and value (`mach-o/nlist.h`); the NUL before the strings.
-- The names have these lengths.
unfoldable pub calling_parts : List ℕ → (name pointer next : ℕ) → List ℕ
calling_parts front name pointer next =
    front ++ joined_all CALLING_SECTIONS ++ words (2 ∷ 24 ∷ 320 ∷ 3 ∷ 368 ∷ (4 + name + pointer + next) ∷ [])
    ++ words (0x14000000 ∷ 0xd65f03c0 ∷ 0 ∷ 0 ∷ 0 ∷ 0x2d000002 ∷ 0 ∷ 0x0e000000 ∷ [])
    ++ words (1 ∷ 0x10f ∷ 0 ∷ 0 ∷ (2 + name) ∷ 0x20f ∷ 8 ∷ 0 ∷ (3 + name + pointer) ∷ 1 ∷ 0 ∷ 0 ∷ []) ++ (0 ∷ [])

-- The last object, whose function calls nothing: `mov w0, #0`, `ret`.
unfoldable pub last_parts : List ℕ → (name pointer : ℕ) → List ℕ
last_parts front name pointer =
    front ++ joined_all LAST_SECTIONS ++ words (2 ∷ 24 ∷ 312 ∷ 2 ∷ 344 ∷ (3 + name + pointer) ∷ [])
    ++ words (0x52800000 ∷ 0xd65f03c0 ∷ 0 ∷ 0 ∷ 0 ∷ 0x0e000000 ∷ []) ++ words (1 ∷ 0x10f ∷ 0 ∷ 0 ∷ (2 + name) ∷ 0x20f ∷ 8 ∷ 0 ∷ [])
    ++ (0 ∷ [])

-- the same with the strings, each with its NUL
unfoldable pub calling_object : List ℕ → (name pointer next : List ℕ) → List ℕ
calling_object front name pointer next =
    calling_parts front (length name) (length pointer) (length next) ++ name ++ (0 ∷ []) ++ pointer ++ (0 ∷ []) ++ next ++ (0 ∷ [])

unfoldable pub last_object : List ℕ → (name pointer : List ℕ) → List ℕ
last_object front name pointer = last_parts front (length name) (length pointer) ++ name ++ (0 ∷ []) ++ pointer ++ (0 ∷ [])
