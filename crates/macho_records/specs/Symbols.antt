-- Symbols: what the fields of an entry of the symbol table say (mach-o/nlist.h). A debugging entry (stab) has no type, and isn't global.
use Rattle.std.specs.Prelude.{ℕ, ◌^◌, ◌-◌, ◌==◌, Bool, not, ◌&&◌, if◌then◌else◌, bit_and, bit_or, Option, Some, None}
use Rattle.macho_bytes.specs.Numbers.{bits, rounded_up}
use Rattle.macho_records.specs.declared.constants.TheConstants.{N_STAB, N_PEXT, N_TYPE, N_EXT, N_UNDF, N_WEAK_DEF}
use Rattle.macho_records.specs.declared.symbols.SymtabEntry.{SymtabEntry}
use Rattle.macho_records.specs.declared.symbols.CommonSymbol.{CommonSymbol}
use Rattle.macho_records.specs.declared.symbols.Visibility.{Visibility}
use Rattle.macho_records.specs.declared.symbols.Visibility.TheVariants.{Hidden, Default}
use Rattle.macho_records.specs.Flags.{has_any}

-- a debugging entry
abbrev pub is_stab_of : SymtabEntry → Bool
is_stab_of s = has_any N_STAB s.n_type

-- a symbol of a type: `N_UNDF` where it is undefined or a common, `N_ABS` for a value of its own, `N_SECT` in a section
abbrev pub has_type : ℕ → SymtabEntry → Bool
has_type type s = not (is_stab_of s) && (bit_and s.n_type N_TYPE == type)

-- a symbol that other files see
abbrev pub is_global : SymtabEntry → Bool
is_global s = not (is_stab_of s) && has_any N_EXT s.n_type

-- seen by this link alone
abbrev pub is_hidden_of : SymtabEntry → Bool
is_hidden_of s = has_any N_PEXT s.n_type

-- a definition that gives way to others
abbrev pub is_weak_of : SymtabEntry → Bool
is_weak_of s = has_any N_WEAK_DEF s.n_desc

abbrev pub visibility_of : SymtabEntry → Visibility
visibility_of s = if is_hidden_of s then Hidden else Default

-- a common: undefined, external, and with a size
abbrev pub is_common_of : SymtabEntry → Bool
is_common_of s = has_type N_UNDF s && has_any N_EXT s.n_type && not (s.n_value == 0)

-- the alignment of a common, as an exponent of 2: bits 8 to 11 of `n_desc`
abbrev pub common_exponent_of : SymtabEntry → ℕ
common_exponent_of s = bits 8 4 s.n_desc

-- the size of a common, rounded up to its alignment
abbrev pub common_size_of : SymtabEntry → ℕ
common_size_of s = rounded_up (2 ^ common_exponent_of s) s.n_value

abbrev pub common_of : SymtabEntry → Option CommonSymbol
common_of s = if is_common_of s then Some (record { size = common_size_of s; align = common_exponent_of s }) else None

-- the symbol with `N_PEXT` set or cleared
abbrev pub with_hidden_of : SymtabEntry → Bool → SymtabEntry
with_hidden_of s hidden = record s { n_type = if hidden then bit_or s.n_type N_PEXT else bit_and s.n_type (255 - N_PEXT) }
