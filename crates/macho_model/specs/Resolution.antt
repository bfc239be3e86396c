-- Resolution: which definition a global name has. The one strong definition, else the first weak one, else the greatest
-- common, else the first library that offers the name, else the image itself for the name of its own handle.
use Rattle.std.specs.Prelude.{ℕ, ◌-◌, ◌==◌, nat_le, ◌&&◌, ◌||◌, not, if◌then◌else◌, Bool, false, List, [], ◌∷◌, ◌++◌, map, filter, Option, Some, None, codes, get_or}
use Rattle.std.specs.List.{flat_map, enumerate_from, range_with_len, list_any, list_all}
use Rattle.std.specs.Option.{unwrap_or}
use Rattle.std.specs.Str.{bytes_eq}
use Rattle.macho_records.specs.declared.symbols.SymtabEntry.{SymtabEntry}
use Rattle.macho_records.specs.Symbols.{is_common_of, is_hidden_of, is_weak_of, has_type, is_global}
use Rattle.macho_records.specs.declared.constants.TheConstants.{N_ABS, N_SECT}
use Rattle.macho_model.specs.Objects.{num_symbols, symbol_at, symbol_name, install_name_of}
use Rattle.macho_model.specs.Lists.{of_first}
use Rattle.macho_model.specs.Links.{Input, Object, Dylib, Stub, Link, no_input, numbers_in, object_of, SectionId, header_at, is_carried}

-- A symbol of an object, by file and index.
pub record SymbolId : Type 0 where
  pub file : ℕ
  pub symbol : ℕ

abbrev pub same_symbol : SymbolId → SymbolId → Bool
same_symbol s t = (s.file == t.file) && (s.symbol == t.symbol)

abbrev pub entry_at : Link → SymbolId → SymtabEntry
entry_at l s = symbol_at (object_of l s.file) s.symbol

abbrev pub name_at : Link → SymbolId → List ℕ
name_at l s = symbol_name (object_of l s.file) s.symbol

-- all symbols of all objects, by file, then index
unfoldable pub symbols_of : Link → List SymbolId
symbols_of l = flat_map (λ i. map (λ k. record { file = i.0; symbol = k }) (numbers_in num_symbols i.1)) (enumerate_from 0 l.inputs)

-- the section that a symbol of a section stands in
abbrev pub section_of_symbol : Link → SymbolId → SectionId
section_of_symbol l s = record { file = s.file; section = (entry_at l s).n_sect - 1 }

-- a symbol stands in a carried section
abbrev pub stands_in_carried : Link → SymbolId → Bool
stands_in_carried l s = has_type N_SECT (entry_at l s) && is_carried (header_at l (section_of_symbol l s))

-- a global symbol that is defined: in a carried section, or as a value of its own
abbrev pub is_definition : Link → SymbolId → Bool
is_definition l s = is_global (entry_at l s) && (stands_in_carried l s || has_type N_ABS (entry_at l s))

abbrev pub has_name : Link → List ℕ → SymbolId → Bool
has_name l name s = bytes_eq (name_at l s) name

-- the strong definitions of a name, and its commons, each in order
unfoldable pub strong_of : Link → List ℕ → List SymbolId
strong_of l name = filter (λ s. (is_definition l s && not (is_weak_of (entry_at l s))) && has_name l name s) (symbols_of l)

unfoldable pub commons_of : Link → List ℕ → List SymbolId
commons_of l name = filter (λ s. is_common_of (entry_at l s) && has_name l name s) (symbols_of l)

-- the commons of a name than which none is greater
unfoldable pub greatest_of : Link → List ℕ → List SymbolId
greatest_of l name =
    filter (λ s. list_all (λ t. nat_le (entry_at l t).n_value (entry_at l s).n_value) (commons_of l name)) (commons_of l name)

-- a library offers the names of its visible defined symbols, or those that its stub lists
abbrev pub offers : List ℕ → Input → Bool
offers name (Object bytes) = false
offers name (Dylib bytes) =
    list_any (λ k. let s = symbol_at bytes k in is_global s && not (is_hidden_of s) && (has_type N_SECT s || has_type N_ABS s)
    && bytes_eq (symbol_name bytes k) name) (range_with_len 0 (num_symbols bytes))
offers name (Stub text says) = list_any (λ n. bytes_eq n name) says.names || list_any (λ n. bytes_eq n name) says.weak_names

-- the libraries that offer a name, by number, in order
unfoldable pub libraries_with : Link → List ℕ → List ℕ
libraries_with l name = map (λ i. i.0) (filter (λ i. offers name i.1) (enumerate_from 0 l.inputs))

-- What defines a name: a symbol of an object, a library by its number, or the image.
pub data Definition : Type 0 where
  Symbol : (s : SymbolId) → Definition
  Library : (file : ℕ) → Definition
  ImageBase : Definition

-- the definition of a global name, the first that there is of: strong symbols, weak ones, the greatest commons, libraries; and of
-- `___dso_handle`, whose address is the image's own, the image
unfoldable pub definition_of : Link → List ℕ → Option Definition
definition_of l name =
    of_first None Some
    (map Symbol (strong_of l name ++ filter (λ s. (is_definition l s && is_weak_of (entry_at l s)) && has_name l name s) (symbols_of l)
    ++ greatest_of l name) ++ map Library (libraries_with l name) ++ (if bytes_eq name (codes "___dso_handle") then ImageBase ∷ [] else []))

-- a symbol is the one that defines its name
abbrev pub is_symbol : SymbolId → Option Definition → Bool
is_symbol s (Some (Symbol t)) = same_symbol s t
is_symbol s d = false

abbrev pub defines : Link → SymbolId → Bool
defines l s = is_global (entry_at l s) && is_symbol s (definition_of l (name_at l s))

-- the commons that define their name, by file and symbol; they are numbered by their place here
unfoldable pub chosen_commons : Link → List SymbolId
chosen_commons l = filter (λ s. is_common_of (entry_at l s) && defines l s) (symbols_of l)

-- the install name of an input that is a library
abbrev pub library_of_input : Input → Option (List ℕ)
library_of_input (Object bytes) = None
library_of_input (Dylib bytes) = Some (install_name_of bytes)
library_of_input (Stub text says) = Some says.install_name

-- the library that defines a name, by its number, if one does
abbrev pub library_in : Option Definition → Option ℕ
library_in (Some (Library file)) = Some file
library_in d = None

-- the install name of an input by its number
abbrev pub library_name : Link → ℕ → List ℕ
library_name l file = unwrap_or (library_of_input (get_or l.inputs file no_input)) []

-- the symbols of one file
abbrev pub symbols_of_file : ℕ → Input → List SymbolId
symbols_of_file file x = map (λ k. record { file = file; symbol = k }) (numbers_in num_symbols x)
