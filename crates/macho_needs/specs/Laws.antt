-- Laws of needs: contracts of functions of `src/laws.rt`.
use Rattle.std.specs.Prelude.{◌≡◌, ℕ, ◌&&◌, not, if◌then◌else◌, List, [], ◌∷◌, ◌++◌, map}
use Rattle.std.specs.List.{list_any}
use Rattle.std.specs.Str.{bytes_eq}
use Rattle.macho_model.specs.Links.{Link}
use Rattle.macho_model.specs.Needs.{is_imported}
use Rattle.macho_model.specs.Uses.{Use, ByName, uses_of}
use Rattle.macho_symbols.specs.Kept.{IsResolved}
use Rattle.macho_promise.specs.Noted.{AreNeeds, imports_in}
use Rattle.macho_promise.specs.Sound.{NamesAreFound}
use Rattle.macho_needs.specs.declared.needs.Needs.{Needs}
use Rattle.macho_needs.specs.Noted.{IsNoted, needed_of}

-- the needs of all uses are those of the link
abbrev pub NeedsAreWhole : Type 0
NeedsAreWhole = (l : Link) (n : Needs) → IsNoted l (uses_of l) n → AreNeeds l (needed_of n)

-- and each name that is used is defined
abbrev pub NamesAreFoundThen : Type 0
NamesAreFoundThen = (l : Link) (n : Needs) → IsNoted l (uses_of l) n → NamesAreFound l

-- where names of export lists are noted as imports, they are noted whole
abbrev pub NamesAreNoted : Type 0
NamesAreNoted =
    (l : Link) (us : List Use) (names : List (List ℕ)) (old new : Needs) → IsNoted l us old → new.tables ≡ old.tables
    → IsResolved l (imports_in l (us ++ map ByName names)) new.resolved → IsNoted l (us ++ map ByName names) new

-- a name is noted where a library defines it, and it isn't noted yet
abbrev pub NameIsNoted : Type 0
NameIsNoted =
    (l : Link) (us : List Use) (name : List ℕ)
    → imports_in l (us ++ ByName name ∷ [])
    ≡ (if is_imported l name && not (list_any (bytes_eq name) (imports_in l us)) then imports_in l us ++ name ∷ [] else imports_in l us)
