-- Parts of the definitions of `SymbolTable`, by names that proofs use.
use Rattle.std.specs.Prelude.{◌==◌, ◌&&◌, ◌||◌, not, Bool, nat_eq, if◌then◌else◌, codes}
use Rattle.macho_records.specs.Symbols.{is_common_of, has_type, is_global}
use Rattle.macho_records.specs.declared.constants.TheConstants.{N_ABS}
use Rattle.macho_model.specs.Links.{Link}
use Rattle.macho_model.specs.Resolution.{SymbolId, entry_at, stands_in_carried, name_at, defines}
use Rattle.std.specs.List.{starts_with}

-- a symbol has a name, and is defined: in a carried section, as a value of its own, or as a common
abbrev pub is_named_definition : Link → SymbolId → Bool
is_named_definition l s =
    not ((entry_at l s).n_strx == 0) && (stands_in_carried l s || has_type N_ABS (entry_at l s) || is_common_of (entry_at l s))

-- a global symbol stands in the table where it is the definition of its name, a local one where its name does not begin with `ltmp`, as
-- labels do that assemblers make for themselves
abbrev pub is_in_table : Link → SymbolId → Bool
is_in_table l s =
    (not ((entry_at l s).n_strx == 0) && (stands_in_carried l s || has_type N_ABS (entry_at l s) || is_common_of (entry_at l s)))
    && (if is_global (entry_at l s) then defines l s else not (starts_with nat_eq (name_at l s) (codes "ltmp")))
