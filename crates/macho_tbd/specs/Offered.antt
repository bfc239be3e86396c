-- What a dynamic library offers to those who link with it (mach-o/nlist.h): its visible defined symbols, by name.
use Rattle.std.specs.Prelude.{ℕ, Bool, not, List, map, filter}
use Rattle.std.specs.List.{range_with_len}
use Rattle.std.specs.Str.{bytes_eq}
use Rattle.macho_records.specs.Symbols.{is_weak_of}
use Rattle.macho_model.specs.Objects.{num_symbols, symbol_at, symbol_name, install_name_of}
use Rattle.macho_model.specs.Links.{StubReading}
use Rattle.macho_model.specs.Needs.{distinct}
use Rattle.macho_symbol_names.specs.Kept.{is_offered}

-- the symbols that a library offers, by number, in the order of its table
unfoldable pub offered_symbols : List ℕ → List ℕ
offered_symbols b = filter (is_offered b) (range_with_len 0 (num_symbols b))

-- two symbols have one name
abbrev pub same_name : List ℕ → ℕ → ℕ → Bool
same_name b j k = bytes_eq (symbol_name b j) (symbol_name b k)

-- of each offered name the first symbol
unfoldable pub first_symbols : List ℕ → List ℕ
first_symbols b = distinct (same_name b) (offered_symbols b)

-- a symbol may be defined elsewhere too (N_WEAK_DEF)
abbrev pub is_weak_at : List ℕ → ℕ → Bool
is_weak_at b k = is_weak_of (symbol_at b k)

-- What a stub has to say of a library: its install name, and each offered name once, in the order of first symbols; a name is among the
-- weak ones where its first symbol is weak.
unfoldable pub said_of : List ℕ → StubReading
said_of b = record {
  install_name = install_name_of b;
  names = map (symbol_name b) (filter (λ k. not (is_weak_at b k)) (first_symbols b));
  weak_names = map (symbol_name b) (filter (is_weak_at b) (first_symbols b));
}
