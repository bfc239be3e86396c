-- What is known of a library's names while its symbols are read in order.
use Rattle.std.specs.Prelude.{◌≡◌, ℕ, ◌==◌, not, length, Bool, true, false, List, [], ◌∷◌, ◌++◌, map, filter, find, None, Some}
use Rattle.std.specs.Borrow.{Bor}
use Rattle.std.specs.List.{list_any, range_with_len}
use Rattle.std.specs.Str.{bytes_eq}
use Rattle.macho_stub_lines.specs.Lists.{texts}
use Rattle.macho_model.specs.Objects.{symbol_name}
use Rattle.macho_model.specs.Links.{StubReading}
use Rattle.macho_model.specs.Needs.{distinct}
use Rattle.macho_symbol_names.specs.Kept.{is_offered}
use Rattle.macho_tbd.specs.declared.fault.TbdFault.{TbdFault}
use Rattle.macho_tbd.specs.declared.fault.TbdFault.TheVariants.{BadDylib, Unwritable, OutOfMemory}
use Rattle.macho_tbd.specs.declared.library.Library.{Library}
use Rattle.macho_tbd.specs.declared.library.Gathered.{Gathered}
use Rattle.macho_tbd.specs.Offered.{same_name, is_weak_at, said_of}
use Rattle.macho_tbd.specs.Writable.{is_writable, unwritable_of}

-- what is known of a library, as a stub says it
abbrev pub reading : Library → StubReading
reading l = record { install_name = l.install_name.now; names = texts l.names.items; weak_names = texts l.weak_names.items }

-- no name is among them
abbrev pub is_none_of : List (Bor (List ℕ)) → Bool
is_none_of names = length names == 0

-- the same with one name more
abbrev pub with_name : StubReading → Bool → List ℕ → StubReading
with_name says true name = record says { weak_names = says.weak_names ++ name ∷ [] }
with_name says false name = record says { names = says.names ++ name ∷ [] }

-- the offered ones of the first n symbols, and of each of their names the first
unfoldable pub offered_below : List ℕ → ℕ → List ℕ
offered_below b n = filter (is_offered b) (range_with_len 0 n)

unfoldable pub firsts_below : List ℕ → ℕ → List ℕ
firsts_below b n = distinct (same_name b) (offered_below b n)

-- a symbol's name can't be written
abbrev pub is_bad : List ℕ → ℕ → Bool
is_bad b k = not (is_writable (symbol_name b k))

-- a name is among some
abbrev pub is_among : List ℕ → List (Bor (List ℕ)) → Bool
is_among name names = list_any (λ other. bytes_eq other name) (texts names)

-- The names of the first n symbols are gathered, and each can be written.
pub record Gathers (b : List ℕ) (n : ℕ) (g : Gathered) : Type 0 where
  pub names : texts g.library.names.items ≡ map (symbol_name b) (filter (λ k. not (is_weak_at b k)) (firsts_below b n))
  pub weak_names : texts g.library.weak_names.items ≡ map (symbol_name b) (filter (is_weak_at b) (firsts_below b n))
  pub seen : (name : List ℕ) → is_among name g.seen.keys ≡ list_any (λ k. bytes_eq (symbol_name b k) name) (offered_below b n)
  pub writable : find (is_bad b) (offered_below b n) ≡ None

-- the gathering stops at a symbol: its name is the first that can't be written, or memory runs out
abbrev pub IsStopped : List ℕ → ℕ → TbdFault → Type 0
IsStopped b n (BadDylib fault) = ⊥
IsStopped b n (Unwritable symbol) = (symbol ≡ Some n) × (is_offered b n ≡ true) × (is_bad b n ≡ true)
IsStopped b n OutOfMemory = Unit {0}

-- All of a library is read, and can be written.
pub record IsRead (b : List ℕ) (l : Library) : Type 0 where
  pub says : reading l ≡ said_of b
  pub writable : unwritable_of b ≡ None

-- why a library isn't read
abbrev pub IsUnread : List ℕ → TbdFault → Type 0
IsUnread b (BadDylib fault) = ⊥
IsUnread b (Unwritable symbol) = unwritable_of b ≡ Some symbol
IsUnread b OutOfMemory = Unit {0}
