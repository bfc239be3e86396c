-- What a file is, by its first bytes.
use Rattle.std.specs.Prelude.{ℕ, ◌&&◌, ◌||◌, nat_eq, if◌then◌else◌, Bool, List, [], ◌∷◌, codes, drop}
use Rattle.std.specs.List.{starts_with}
use Rattle.macho_job.specs.declared.fault.InputKind.{InputKind}
use Rattle.macho_job.specs.declared.fault.InputKind.TheVariants.{Archive, Universal, Other}
use Rattle.macho_job.specs.declared.heads.Head.{Head}
use Rattle.macho_job.specs.declared.heads.Head.TheVariants.{Object, Dylib, Stub, Unknown}

-- The bytes begin as a 64-bit file of this type (`mach-o/loader.h`): the magic number MH_MAGIC_64 is its first word, the type its
-- fourth, and each word has its lowest byte first.
abbrev pub has_type : List ℕ → List ℕ → Bool
has_type type bytes = starts_with nat_eq bytes (0xcf ∷ 0xfa ∷ 0xed ∷ 0xfe ∷ []) && starts_with nat_eq (drop 12 bytes) type

-- What a file is that is no input: an archive begins with a line of text (`ar.h`), a universal file with FAT_MAGIC or FAT_MAGIC_64, the
-- highest byte first (`mach-o/fat.h`).
abbrev pub kind_of : List ℕ → InputKind
kind_of bytes =
    if starts_with nat_eq bytes (codes "!<arch>\n") then Archive
    else if starts_with nat_eq bytes (0xca ∷ 0xfe ∷ 0xba ∷ 0xbe ∷ []) || starts_with nat_eq bytes (0xca ∷ 0xfe ∷ 0xba ∷ 0xbf ∷ [])
    then Universal
    else Other

-- THE head of bytes: what they begin as. The type MH_OBJECT is 1, MH_DYLIB 6 (`mach-o/loader.h`); a text stub begins with a line of
-- its format.
unfoldable pub head_of : List ℕ → Head
head_of bytes =
    if has_type (1 ∷ 0 ∷ 0 ∷ 0 ∷ []) bytes then Object
    else if has_type (6 ∷ 0 ∷ 0 ∷ 0 ∷ []) bytes then Dylib
    else if starts_with nat_eq bytes (codes "--- !tapi-tbd") then Stub
    else Unknown (kind_of bytes)
