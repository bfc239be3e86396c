-- Which symbols of the objects are in the symbol table of an image (`mach-o/nlist.h`).
use Rattle.std.specs.Prelude.{◌==◌, nat_eq, ◌&&◌, ◌||◌, not, if◌then◌else◌, List, codes, filter}
use Rattle.std.specs.List.{starts_with}
use Rattle.macho_records.specs.Symbols.{is_common_of, has_type, is_global}
use Rattle.macho_records.specs.declared.constants.TheConstants.{N_ABS}
use Rattle.macho_model.specs.Links.{Link}
use Rattle.macho_model.specs.Resolution.{SymbolId, entry_at, name_at, symbols_of, stands_in_carried, defines}

-- The symbols of the table, by object, then symbol. Each has a name, and is defined: in a carried section, as a value of its own, or as a
-- common. A global one is there where it is the definition of its name, a local one where its name does not begin with `ltmp`, as labels
-- do that assemblers make for themselves.
unfoldable pub table_symbols : Link → List SymbolId
table_symbols l =
    filter (λ s. (not ((entry_at l s).n_strx == 0)
    && (stands_in_carried l s || has_type N_ABS (entry_at l s) || is_common_of (entry_at l s)))
    && (if is_global (entry_at l s) then defines l s else not (starts_with nat_eq (name_at l s) (codes "ltmp")))) (symbols_of l)
