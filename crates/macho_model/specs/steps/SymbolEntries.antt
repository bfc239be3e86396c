-- Parts of the definitions of `SymbolEntries`, by names that proofs use.
use Rattle.std.specs.Prelude.{ℕ, ◌-◌, bit_and, bit_or}
use Rattle.macho_records.specs.declared.constants.TheConstants.{N_EXT, N_PEXT}

-- the type with `N_PEXT` in place of `N_EXT`
abbrev pub hidden_type : ℕ → ℕ
hidden_type type = bit_or (bit_and type (255 - N_EXT)) N_PEXT
