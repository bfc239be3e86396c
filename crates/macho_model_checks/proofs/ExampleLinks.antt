-- Small links written out by hand, for the computed facts of this folder.
use Rattle.std.proofs.Common.{ℕ, List, [], ◌∷◌, ◌++◌, None, true, false, ◌/◌}
use Rattle.std.specs.Prelude.{codes, length, ◌+◌}
use Rattle.macho_model.specs.Links.{Input, Object, Stub, Link, SectionId}
use Rattle.macho_model.specs.Resolution.{SymbolId}
use Rattle.macho_model_checks.proofs.Examples.{words8, words, halves, name16, object_b}

-- an entry of a symbol table (`struct nlist_64`)
unfoldable pub entry : ℕ → ℕ → ℕ → ℕ → ℕ → List ℕ
entry name type section description value = words (name ∷ []) ++ type ∷ section ∷ halves (description ∷ []) ++ words8 (value ∷ [])

-- An object with one section `__TEXT,__text` of a text and relocations, with symbols and strings: header 32, segment
-- 152, symbol table 24, then from 208 on the four lists.
unfoldable pub text_object : List ℕ → List ℕ → List ℕ → List ℕ → List ℕ
text_object text relocations symbols strings =
    words (0xfeedfacf ∷ 0x0100000c ∷ 0 ∷ 1 ∷ 2 ∷ 176 ∷ 0x2000 ∷ 0 ∷ [])
    ++ words (0x19 ∷ 152 ∷ []) ++ name16 [] ++ words8 (0 ∷ length text ∷ 208 ∷ length text ∷ []) ++ words (7 ∷ 7 ∷ 1 ∷ 0 ∷ [])
    ++ name16 (codes "__text") ++ name16 (codes "__TEXT") ++ words8 (0 ∷ length text ∷ [])
    ++ words (208 ∷ 2 ∷ (208 + length text) ∷ (length relocations / 8) ∷ 0x80000400 ∷ 0 ∷ 0 ∷ 0 ∷ [])
    ++ words (2 ∷ 24 ∷ (208 + length text + length relocations) ∷ (length symbols / 16)
    ∷ (208 + length text + length relocations + length symbols) ∷ length strings ∷ [])
    ++ text ++ relocations ++ symbols ++ strings

-- a library's stub text, read
abbrev pub system : Input
system = Stub [] (record {
  install_name = codes "/usr/lib/libSystem.B.dylib";
  names = codes "_exit" ∷ codes "_write" ∷ codes "_f"
      ∷ [];
  weak_names = [];
})

-- an executable of inputs
abbrev pub executable_of : List Input → Link
executable_of inputs = record {
  executable = true;
  output = codes "out";
  entry = codes "_main";
  install_name = [];
  rpaths = [];
  versions = None;
  dead_strip_dylibs = false;
  headerpad = false;
  inputs = inputs;
  export_lists = [];
}

abbrev pub section : ℕ → ℕ → SectionId
section file number = record { file = file; section = number }

abbrev pub symbol : ℕ → ℕ → SymbolId
symbol file number = record { file = file; symbol = number }

-- two instructions that do nothing, of an object whose symbols matter alone
abbrev pub two_returns : List ℕ
two_returns = words (0xd65f03c0 ∷ 0xd65f03c0 ∷ [])

abbrev pub some_names : List ℕ
some_names = 0 ∷ codes "_f" ++ 0 ∷ codes "_g" ++ 0 ∷ codes "_h" ++ 0 ∷ codes "_c" ++ 0 ∷ []

-- Three objects and a library that define `_f`, `_g`, `_h` and `_c` in different ways. The first one asks for `_f`,
-- and has `_g` and `_c` as commons of 4 bytes.
unfoldable pub asks : List ℕ
asks = text_object two_returns [] (entry 1 0x01 0 0 0 ++ entry 4 0x01 0 0x200 4 ++ entry 10 0x01 0 0x200 4) some_names

-- the second one has `_f` strong, `_g` and `_h` weak, and a common `_c` of 8 bytes aligned to 4
unfoldable pub defines_strongly : List ℕ
defines_strongly =
    text_object two_returns [] (entry 1 0x0f 1 0 4 ++ entry 4 0x0f 1 0x80 0 ++ entry 10 0x01 0 0x200 8 ++ entry 7 0x0f 1 0x80 4) some_names

-- the third one has a common `_c` of 8 bytes aligned to 8, and `_h` and `_f` weak
unfoldable pub defines_weakly : List ℕ
defines_weakly = text_object two_returns [] (entry 10 0x01 0 0x300 8 ++ entry 7 0x0f 1 0x80 0 ++ entry 1 0x0f 1 0x80 0) some_names

abbrev pub resolving : Link
resolving = executable_of (Object asks ∷ Object defines_strongly ∷ Object defines_weakly ∷ system ∷ [])

-- `_f` strong in two objects
abbrev pub doubled : Link
doubled = executable_of (Object defines_strongly ∷ Object asks ∷ Object defines_strongly ∷ [])

-- the object of all kinds of records, with the library that has its function
abbrev pub linked_b : Link
linked_b = executable_of (Object object_b ∷ system ∷ [])

-- Instructions that find an address: a page and an offset in it, each with an addend in front, and the same of a slot.
--
-- `_main` at 0, `_f` at 20, `_exit` of the library. Relocations: addend -4 and page of `_f` at 0, addend 16 and offset
-- of `_f` at 4, page of the slot of `_exit` at 8 and its offset at 12.
unfoldable pub finds_addresses : List ℕ
finds_addresses =
    text_object (words (0x90000000 ∷ 0x91000000 ∷ 0x90000008 ∷ 0xf9400108 ∷ 0xd65f03c0 ∷ 0xd65f03c0 ∷ []))
    (words (0 ∷ 0xa4fffffc ∷ 0 ∷ 0x3d000001 ∷ 4 ∷ 0xa4000010 ∷ 4 ∷ 0x4c000001 ∷ 8 ∷ 0x5d000002 ∷ 12 ∷ 0x6c000002 ∷ []))
    (entry 1 0x0f 1 0 0 ++ entry 7 0x0f 1 0 20 ++ entry 10 0x01 0 0 0)
    (0 ∷ codes "_main" ++ 0 ∷ codes "_f" ++ 0 ∷ codes "_exit" ++ 0 ∷ [])

abbrev pub finding : Link
finding = executable_of (Object finds_addresses ∷ system ∷ [])

-- Relocations that are not supported: a branch over an ADRP at 0, an addend in front of a slot's offset at 4, a slot's
-- offset of `_main` over a load into register 31 at 8, and one that shares two bytes with it at 10.
unfoldable pub asks_too_much : List ℕ
asks_too_much =
    text_object (words (0x90000000 ∷ 0xf9400108 ∷ 0xf940001f ∷ 0xd65f03c0 ∷ []))
    (words (0 ∷ 0x2d000000 ∷ 4 ∷ 0xa4000010 ∷ 4 ∷ 0x6c000000 ∷ 8 ∷ 0x6c000000 ∷ 10 ∷ 0x6c000000 ∷ []))
    (entry 1 0x0f 1 0 0) (0 ∷ codes "_main" ++ 0 ∷ [])

abbrev pub unsupported : Link
unsupported = executable_of (Object asks_too_much ∷ [])
