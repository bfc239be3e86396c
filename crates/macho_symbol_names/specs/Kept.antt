-- What a resolver keeps of its inputs, so that it reads nothing else of them: a row for each symbol of an object, and a
-- row for each name that a library offers.
use Rattle.std.specs.Prelude.{◌≡◌, ℕ, ◌-◌, ◌&&◌, ◌||◌, not, if◌then◌else◌, Bool, true, false, List, [], ◌++◌, map, filter, Option, Some, None}
use Rattle.std.specs.List.{range_with_len}
use Rattle.macho_records.specs.declared.symbols.SymtabEntry.{SymtabEntry}
use Rattle.macho_records.specs.Symbols.{is_common_of, common_exponent_of, is_hidden_of, is_weak_of, has_type, is_global}
use Rattle.macho_records.specs.declared.constants.TheConstants.{N_ABS, N_SECT}
use Rattle.macho_object.specs.Objects.{num_symbols, symbol_at, symbol_name, section_at, install_name_of}
use Rattle.macho_object.specs.Links.{Input, Object, Dylib, Stub, StubReading, is_carried}
use Rattle.macho_stub.specs.declared.library.DefinedStubLibrary.{DefinedStubLibrary}
use Rattle.macho_stub_lines.specs.Lists.{texts}
use Rattle.macho_symbol_names.specs.declared.notes.Sort.{Sort}
use Rattle.macho_symbol_names.specs.declared.notes.Sort.TheVariants.{Section, Absolute, Common, Offered, Nowhere}

-- A symbol of an object, or a name that a library offers. A local symbol is kept without its name.
pub record Row : Type 0 where
  pub name : List ℕ
  -- where it leads by itself
  pub sort : Sort
  -- its section's number from 0, or a common's exponent
  pub number : ℕ
  -- its place in its section, its absolute value, or a common's size
  pub value : ℕ
  pub global : Bool
  pub weak : Bool
  pub hidden : Bool

-- What is kept of an input: the install name of a library, and the rows.
pub record FileRows : Type 0 where
  pub library : Option (List ℕ)
  pub rows : List Row

-- a symbol of an object stands in a carried section
abbrev pub in_carried : List ℕ → SymtabEntry → Bool
in_carried b e = has_type N_SECT e && is_carried (section_at b (e.n_sect - 1))

abbrev pub sort_of : List ℕ → SymtabEntry → Sort
sort_of b e =
    if in_carried b e then Section else if has_type N_ABS e then Absolute else if is_common_of e then Common else Nowhere

abbrev pub number_of : List ℕ → SymtabEntry → Sort → ℕ
number_of b e Section = e.n_sect - 1
number_of b e Common = common_exponent_of e
number_of b e Absolute = 0
number_of b e Offered = 0
number_of b e Nowhere = 0

abbrev pub value_of : List ℕ → SymtabEntry → Sort → ℕ
value_of b e Section = e.n_value - (section_at b (e.n_sect - 1)).addr
value_of b e Common = e.n_value
value_of b e Absolute = e.n_value
value_of b e Offered = 0
value_of b e Nowhere = 0

abbrev pub kept_name : List ℕ → ℕ → List ℕ
kept_name b k = if is_global (symbol_at b k) then symbol_name b k else []

-- the row of a symbol of an object
unfoldable pub row_of_symbol : List ℕ → ℕ → Row
row_of_symbol b k = record {
  name = kept_name b k;
  sort = sort_of b (symbol_at b k);
  number = number_of b (symbol_at b k) (sort_of b (symbol_at b k));
  value = value_of b (symbol_at b k) (sort_of b (symbol_at b k));
  global = is_global (symbol_at b k);
  weak = is_weak_of (symbol_at b k);
  hidden = is_hidden_of (symbol_at b k);
}

-- the row of a name that a library offers
abbrev pub offered_row : List ℕ → Row
offered_row name = record { name = name; sort = Offered; number = 0; value = 0; global = true; weak = false; hidden = false }

-- a symbol of a dynamic library is offered: it is visible, and defined
abbrev pub is_offered : List ℕ → ℕ → Bool
is_offered b k =
    is_global (symbol_at b k) && not (is_hidden_of (symbol_at b k)) && (has_type N_SECT (symbol_at b k) || has_type N_ABS (symbol_at b k))

-- what is kept of each kind of input
unfoldable pub rows_of_object : List ℕ → List Row
rows_of_object b = map (row_of_symbol b) (range_with_len 0 (num_symbols b))

unfoldable pub rows_of_dylib : List ℕ → List Row
rows_of_dylib b = map (λ k. offered_row (symbol_name b k)) (filter (is_offered b) (range_with_len 0 (num_symbols b)))

unfoldable pub rows_of_stub : List (List ℕ) → List (List ℕ) → List Row
rows_of_stub names weak_names = map offered_row (names ++ weak_names)

abbrev pub kept_object : List ℕ → FileRows
kept_object b = record { library = None; rows = rows_of_object b }

abbrev pub kept_dylib : List ℕ → FileRows
kept_dylib b = record { library = Some (install_name_of b); rows = rows_of_dylib b }

abbrev pub kept_stub : StubReading → FileRows
kept_stub says = record { library = Some says.install_name; rows = rows_of_stub says.names says.weak_names }

-- what a stub text that was read says
abbrev pub reading_of : DefinedStubLibrary → StubReading
reading_of stub = record
    { install_name = stub.install_name.now; names = texts stub.symbols.items; weak_names = texts stub.weak_symbols.items }

abbrev pub kept_of : Input → FileRows
kept_of (Object b) = kept_object b
kept_of (Dylib b) = kept_dylib b
kept_of (Stub text says) = kept_stub says

-- A resolver keeps these inputs, in order.
pub record Keeps (inputs : List Input) (files : List FileRows) : Type 0 where
  pub are : files ≡ map kept_of inputs

-- rows and files by number
abbrev pub no_row : Row
no_row = record { name = []; sort = Nowhere; number = 0; value = 0; global = false; weak = false; hidden = false }

abbrev pub no_file : FileRows
no_file = record { library = None; rows = [] }
