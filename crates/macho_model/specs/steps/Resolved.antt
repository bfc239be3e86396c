-- The definition of a name by one kind of candidate after the other, and the tests and lists that it is made of.
use Rattle.std.specs.Prelude.{ℕ, ◌&&◌, ◌||◌, not, if◌then◌else◌, Bool, List, map, filter, Option, Some, None, codes, is_some}
use Rattle.std.specs.Option.{unwrap_or}
use Rattle.std.specs.Str.{bytes_eq}
use Rattle.macho_records.specs.Symbols.{is_hidden_of, is_weak_of, has_type, is_global}
use Rattle.macho_records.specs.declared.constants.TheConstants.{N_ABS, N_SECT}
use Rattle.macho_model.specs.Lists.{of_first}
use Rattle.macho_model.specs.Objects.{symbol_at, symbol_name}
use Rattle.macho_model.specs.Links.{Link}
use Rattle.macho_model.specs.Resolution.{SymbolId, Definition, Symbol, Library, ImageBase, entry_at, symbols_of, is_definition, has_name, strong_of, greatest_of, libraries_with, library_in}

abbrev pub is_strong : Link → SymbolId → Bool
is_strong l s = is_definition l s && not (is_weak_of (entry_at l s))

abbrev pub is_weak : Link → SymbolId → Bool
is_weak l s = is_definition l s && is_weak_of (entry_at l s)

-- the weak definitions of a name, in order
unfoldable pub weak_of : Link → List ℕ → List SymbolId
weak_of l name = filter (λ s. is_weak l s && has_name l name s) (symbols_of l)

abbrev pub is_offered_symbol : List ℕ → List ℕ → ℕ → Bool
is_offered_symbol bytes name k =
    is_global (symbol_at bytes k) && not (is_hidden_of (symbol_at bytes k))
    && (has_type N_SECT (symbol_at bytes k) || has_type N_ABS (symbol_at bytes k)) && bytes_eq (symbol_name bytes k) name

-- the symbol whose address is the image's own
abbrev pub DSO_HANDLE : List ℕ
DSO_HANDLE = codes "___dso_handle"

-- the first of a list, else another definition
abbrev pub first_or : List Definition → Option Definition → Option Definition
first_or ds other = of_first other Some ds

-- the definition of a global name
unfoldable pub first_definition : Link → List ℕ → Option Definition
first_definition l name =
    first_or (map Symbol (strong_of l name))
    (first_or (map Symbol (weak_of l name))
    (first_or (map Symbol (greatest_of l name))
    (first_or (map Library (libraries_with l name))
    (if bytes_eq name DSO_HANDLE then Some ImageBase else None))))

abbrev pub is_library : Option Definition → Bool
is_library d = is_some (library_in d)

abbrev pub library_file : Option Definition → ℕ
library_file d = unwrap_or (library_in d) 0
