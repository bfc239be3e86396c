-- What an exports trie says of a name (`mach-o/loader.h`, `EXPORT_SYMBOL_FLAGS_..`).
use Rattle.std.specs.Prelude.{◌≢◌, ℕ, ◌<◌, ◌/◌, ◌%◌, ◌==◌, Bool, List, length, slice_index}
use Rattle.macho_trie.specs.declared.lookup.Export.{Export}
use Rattle.macho_trie.specs.declared.lookup.Export.TheVariants.{Value, Reexport}

-- A value with its flags, or a name of a library: the flags, the library's number from 1, and the name there.
pub data Exported : Type 0 where
  as_value : (flags address : ℕ) → Exported
  as_reexport : (flags ordinal : ℕ) (name : List ℕ) → Exported

-- the flags have the bit of a reexport, EXPORT_SYMBOL_FLAGS_REEXPORT, whose value is 8
abbrev pub REEXPORT : ℕ
REEXPORT = 8

abbrev pub is_reexport : ℕ → Bool
is_reexport flags = flags / REEXPORT % 2 == 1

-- an answer of the code, with the bytes of its name
abbrev pub exported_of : Export → Exported
exported_of (Value flags address) = as_value flags address
exported_of (Reexport flags ordinal name) = as_reexport flags ordinal name.now

-- a name that can be spelled up to a NUL
abbrev pub HasNoNul : List ℕ → Type 0
HasNoNul name = (k : ℕ) → k < length name → slice_index name k ≢ 0
