-- Small dynamic libraries, written out by hand from the public headers (mach-o/loader.h, mach-o/nlist.h), and what is said of them, by
-- computing: the lists, the text, and the first name that can't be written. The texts were written by hand, too.
use Rattle.std.proofs.Common.{◌≡◌, ℕ, ◌+◌, true, false, List, [], ◌∷◌, ◌++◌, length, replicate, Some, None, refl}
use Rattle.std.specs.Prelude.{codes}
use Rattle.std.specs.Str.{is_utf8, chars}
use lib.Utf8.{encode}
use Rattle.macho_bytes.specs.Numbers.{little, le_at, le_bytes, row_bytes}
use Rattle.macho_bytes.specs.Layouts.{reading}
use Rattle.macho_model.specs.Commands.{header_of, commands_from, commands_of}
use Rattle.macho_model.specs.Links.{StubReading}
use Rattle.macho_model.specs.Objects.{symtab_of, num_symbols, symbol_place, symbol_at, strings_of, symbol_name, install_name_of}
use Rattle.macho_tbd.specs.Offered.{offered_symbols, first_symbols, said_of}
use Rattle.macho_tbd.specs.Writable.{is_writable, names_of, unwritable_of}
use Rattle.macho_tbd.specs.Text.{quoted, stub_lines, text_of}

-- A symbol: its name's place, its type, its section, its description; its value is 8.
abbrev pub entry : ℕ → ℕ → ℕ → ℕ → List ℕ
entry name type section description = row_bytes little 4 (name ∷ []) ++ type ∷ section ∷ row_bytes little 2 (description ∷ [])
    ++ row_bytes little 8 (8 ∷ [])

-- A library `/usr/lib/libq.dylib`: header 32 bytes, install name 48, symbol table 24; at 104 the symbols, and then their names.
unfoldable pub library : ℕ → List ℕ → List ℕ → List ℕ
library count symbols strings =
    row_bytes little 4 (0xfeedfacf ∷ 0x0100000c ∷ 0 ∷ 6 ∷ 2 ∷ 72 ∷ 0 ∷ 0 ∷ [])
    ++ row_bytes little 4 (0xd ∷ 48 ∷ 24 ∷ 2 ∷ 0x10000 ∷ 0x10000 ∷ []) ++ codes "/usr/lib/libq.dylib" ++ replicate 5 0
    ++ row_bytes little 4 (2 ∷ 24 ∷ 104 ∷ count ∷ (104 + length symbols) ∷ length strings ∷ [])
    ++ symbols ++ strings

abbrev pub install_name : List ℕ
install_name = codes "/usr/lib/libq.dylib"

-- ---- a symbol, and a weak one

unfoldable pub two : List ℕ
two = library 2 (entry 1 0x0f 1 0 ++ entry 4 0x0f 1 0x80) (0 ∷ codes "_a" ++ 0 ∷ codes "_b" ++ 0 ∷ [])

abbrev pub two_said : StubReading
two_said = record { install_name = install_name; names = codes "_a" ∷ []; weak_names = codes "_b" ∷ [] }

pub two_says : (said_of two ≡ two_said) × (unwritable_of two ≡ None)
unfolding said_of first_symbols offered_symbols unwritable_of names_of is_writable is_utf8 chars encode install_name_of
    symbol_name header_of commands_from commands_of symtab_of num_symbols symbol_place symbol_at strings_of le_at le_bytes row_bytes
    reading library two
two_says = (refl, refl)

pub two_text : text_of two_said ≡ codes "--- !tapi-tbd\n" ++ codes "tbd-version: 4\n" ++ codes "targets: [ arm64e-macos ]\n"
    ++ codes "install-name: '/usr/lib/libq.dylib'\n" ++ codes "current-version: 1\n" ++ codes "exports:\n"
    ++ codes "  - targets: [ arm64e-macos ]\n" ++ codes "    symbols: [ '_a' ]\n" ++ codes "    weak-symbols: [ '_b' ]\n" ++ codes "...\n"
unfolding text_of stub_lines quoted
two_text = refl

-- ---- nothing is offered: an undefined symbol, a common, a hidden, a local and a debugging one

unfoldable pub none : List ℕ
none =
    library 5 (entry 1 0x01 0 0 ++ entry 1 0x01 0 0x300 ++ entry 1 0x1f 1 0 ++ entry 1 0x0e 1 0 ++ entry 1 0x24 1 0)
    (0 ∷ codes "_a" ++ 0 ∷ [])

abbrev pub none_said : StubReading
none_said = record { install_name = install_name; names = []; weak_names = [] }

pub none_says : (said_of none ≡ none_said) × (unwritable_of none ≡ None)
unfolding said_of first_symbols offered_symbols unwritable_of names_of is_writable is_utf8 chars encode install_name_of
    symbol_name header_of commands_from commands_of symtab_of num_symbols symbol_place symbol_at strings_of le_at le_bytes row_bytes
    reading library none
none_says = (refl, refl)

pub none_text : text_of none_said ≡ codes "--- !tapi-tbd\n" ++ codes "tbd-version: 4\n" ++ codes "targets: [ arm64e-macos ]\n"
    ++ codes "install-name: '/usr/lib/libq.dylib'\n" ++ codes "current-version: 1\n" ++ codes "...\n"
unfolding text_of stub_lines quoted
none_text = refl

-- ---- names twice, first weak or first not; and an absolute symbol

unfoldable pub twice : List ℕ
twice =
    library 5 (entry 1 0x0f 1 0x80 ++ entry 1 0x0f 1 0 ++ entry 4 0x0f 1 0 ++ entry 4 0x0f 1 0x80 ++ entry 7 0x03 0 0)
    (0 ∷ codes "_a" ++ 0 ∷ codes "_b" ++ 0 ∷ codes "_c" ++ 0 ∷ [])

pub twice_says : said_of twice
    ≡ record { install_name = install_name; names = codes "_b" ∷ codes "_c" ∷ []; weak_names = codes "_a" ∷ [] }
unfolding said_of first_symbols offered_symbols install_name_of symbol_name header_of commands_from commands_of symtab_of num_symbols
    symbol_place symbol_at strings_of le_at le_bytes row_bytes reading library twice
twice_says = refl

-- ---- names with quotes

pub quotes : (quoted (codes "_a'b") ≡ codes "\"_a'b\"") × (quoted (codes "_a\"b\\") ≡ codes "'_a\"b\\'")
unfolding quoted
quotes = (refl, refl)

-- A single quote stands with a double quote or a backslash; a control character; bytes that aren't UTF-8.
pub cannot : (is_writable (codes "_a'\"") ≡ false) × (is_writable (codes "_a'\\") ≡ false) × (is_writable (codes "_a\t") ≡ false)
    × (is_writable (95 ∷ 127 ∷ []) ≡ false) × (is_writable (95 ∷ 0xff ∷ []) ≡ false) × (is_writable (95 ∷ 0xc3 ∷ []) ≡ false)
unfolding is_writable is_utf8 chars encode
cannot = (refl, refl, refl, refl, refl, refl)

pub can : (is_writable (codes "_a'") ≡ true) × (is_writable (codes "\"\\") ≡ true) × (is_writable [] ≡ true)
    × (is_writable (95 ∷ 0xc3 ∷ 0xb1 ∷ []) ≡ true) × (is_writable (codes "a, #b ]") ≡ true)
unfolding is_writable is_utf8 chars encode
can = (refl, refl, refl, refl, refl)

-- Only an offered symbol's name counts: here the second of three, since the first one is local.
unfoldable pub bad : List ℕ
bad = library 3 (entry 1 0x0e 1 0 ++ entry 1 0x0f 1 0 ++ entry 1 0x0f 1 0) (0 ∷ codes "_a'\"" ++ 0 ∷ [])

pub bad_says : unwritable_of bad ≡ Some (Some 1)
unfolding offered_symbols unwritable_of names_of is_writable is_utf8 chars encode install_name_of
    symbol_name header_of commands_from commands_of symtab_of num_symbols symbol_place symbol_at strings_of le_at le_bytes row_bytes
    reading library bad
bad_says = refl
