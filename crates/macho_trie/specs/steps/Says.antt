-- The parts of what a name says, and which of it can be written.
use Rattle.std.specs.Prelude.{◌≡◌, ℕ, ◌^◌, ◌<◌, Bool, true, false, List, []}
use Rattle.macho_trie.specs.Exports.{Exported, as_value, as_reexport, is_reexport, HasNoNul}

-- the flags
abbrev pub flags_in : Exported → ℕ
flags_in (as_value flags address) = flags
flags_in (as_reexport flags ordinal name) = flags

-- the address, or the ordinal
abbrev pub number_in : Exported → ℕ
number_in (as_value flags address) = address
number_in (as_reexport flags ordinal name) = ordinal

-- the name in a library, none for a value
abbrev pub name_in : Exported → List ℕ
name_in (as_value flags address) = []
name_in (as_reexport flags ordinal name) = name

-- whether it names a symbol of a library
abbrev pub is_named : Exported → Bool
is_named (as_value flags address) = false
is_named (as_reexport flags ordinal name) = true

-- What can be written and read: numbers of 64 bits, the bit of a reexport exactly for one, and a name without a NUL.
pub record IsSound (x : Exported) : Type 0 where
  pub flags : flags_in x < 2 ^ 64
  pub number : number_in x < 2 ^ 64
  pub bit : is_reexport (flags_in x) ≡ is_named x
  pub name : HasNoNul (name_in x)
