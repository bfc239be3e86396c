-- Which names can be written into a stub text, where a scalar in quotes has no escapes: in single quotes stands anything but a single
-- quote, in double quotes anything but a double quote and a backslash.
use Rattle.std.specs.Prelude.{ℕ, ◌==◌, nat_lt, ◌&&◌, ◌||◌, not, Bool, List, ◌∷◌, map, find, Option, None, Some}
use Rattle.std.specs.Option.{option_map}
use Rattle.std.specs.List.{list_any}
use Rattle.std.specs.Str.{is_utf8}
use Rattle.macho_stub_lines.specs.Bytes.{space, single_quote, double_quote, backslash}
use Rattle.macho_model.specs.Objects.{symbol_name, install_name_of}
use Rattle.macho_tbd.specs.Offered.{offered_symbols}

-- a control character of ASCII: below a space, or 127. (Bytes of other characters of UTF-8 are 128 or more.)
abbrev pub is_control : ℕ → Bool
is_control b = nat_lt b space || (b == 127)

abbrev pub has_single : List ℕ → Bool
has_single name = list_any (λ b. b == single_quote) name

-- what may not stand in double quotes
abbrev pub has_double : List ℕ → Bool
has_double name = list_any (λ b. (b == double_quote) || (b == backslash)) name

-- The name is UTF-8, has no control character of ASCII, and fits single quotes or double ones.
unfoldable pub is_writable : List ℕ → Bool
is_writable name = is_utf8 name && (not (list_any is_control name) && not (has_single name && has_double name))

-- A name that has to be written: of a symbol by its number, or the install name.
pub record Named : Type 0 where
  pub symbol : Option ℕ
  pub name : List ℕ

-- the names of a library that have to be written: the install name, and then those of the offered symbols in order
unfoldable pub names_of : List ℕ → List Named
names_of b =
    record { symbol = None; name = install_name_of b }
    ∷ map (λ k. record { symbol = Some k; name = symbol_name b k }) (offered_symbols b)

-- whose name is the first that can't be written, if there is one
unfoldable pub unwritable_of : List ℕ → Option (Option ℕ)
unwritable_of b = option_map (λ named. named.symbol) (find (λ named. not (is_writable named.name)) (names_of b))
