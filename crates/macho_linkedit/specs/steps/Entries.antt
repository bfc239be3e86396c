-- The import table as it is made: entry by entry.
use Rattle.std.specs.Prelude.{◌≡◌, ℕ, ◌+◌, ◌<◌, List, [], ◌∷◌, ◌++◌, length, take, get_or, pos}
use Rattle.std.specs.Int.{w32, cast_unsigned}
use Rattle.std.specs.List.{flat_map, position_or_len}
use Rattle.std.specs.Str.{bytes_eq}
use Rattle.macho_bytes.specs.Numbers.{signed}
use Rattle.macho_symbols.specs.declared.solved.Import.{Import}
use Rattle.macho_fixups.specs.declared.imports.ImportEntry.{ImportEntry}
use Rattle.macho_symbols.specs.declared.solved.OwnEntry.{OwnEntry}

-- the name of an import with its NUL, and those of several
abbrev pub name_text : Import → List ℕ
name_text i = i.name.items ++ 0 ∷ []

abbrev pub names_of : List Import → List ℕ
names_of imports = flat_map name_text imports

-- the plain entry of an import whose name stands behind some bytes of names
abbrev pub plain_entry : List (List ℕ) → ℕ → Import → ImportEntry
plain_entry libraries at i = record { library = position_or_len (bytes_eq i.library.items) libraries + 1; name_offset = at; addend = pos 0 }

abbrev pub plain_at : List (List ℕ) → List Import → ℕ → Import → ImportEntry
plain_at libraries imports k i = plain_entry libraries (length (names_of (take k imports))) (get_or imports k i)

-- The first n imports have their entries and their names.
pub record HavePlain (libraries : List (List ℕ)) (imports : List Import) (n : ℕ) (entries : List ImportEntry)
    (names : List ℕ) : Type 0 where
  pub long : length entries ≡ n
  pub each : (k : ℕ) (d : ImportEntry) (i : Import) → k < n → get_or entries k d ≡ plain_at libraries imports k i
  pub text : names ≡ names_of (take n imports)

-- an own entry is that of its import, with the addend
pub record IsOwnOf (plain : List ImportEntry) (o : OwnEntry) (e : ImportEntry) : Type 0 where
  pub library : (d : ImportEntry) → e.library ≡ (get_or plain o.import d).library
  pub place : (d : ImportEntry) → e.name_offset ≡ (get_or plain o.import d).name_offset
  pub addend : signed 32 (cast_unsigned w32 e.addend) ≡ o.addend

-- Behind the plain entries stand the first n own ones.
pub record HaveOwn (plain : List ImportEntry) (own : List OwnEntry) (n : ℕ) (entries : List ImportEntry) : Type 0 where
  pub rest : List ImportEntry
  pub are : entries ≡ plain ++ rest
  pub long : length rest ≡ n
  pub each : (k : ℕ) (d : ImportEntry) (o : OwnEntry) → k < n → IsOwnOf plain (get_or own k o) (get_or rest k d)
