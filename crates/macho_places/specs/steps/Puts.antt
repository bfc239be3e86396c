-- One address more in a table.
use Rattle.std.specs.Prelude.{◌≡◌, ℕ, ◌==◌, ◌&&◌, if◌then◌else◌, List, get_or}
use Rattle.macho_places.specs.declared.addresses.SectionTable.{SectionTable}
use Rattle.macho_places.specs.Lookups.{address_in}

-- An element is put in a row, which has zeros behind its end, and all others are as before.
abbrev pub PutsInRow : List ℕ → List ℕ → ℕ → ℕ → Type 0
PutsInRow old new section address = (k : ℕ) → get_or new k 0 ≡ (if section == k then address else get_or old k 0)

-- The address of a section is put in a table, and all others are as before.
abbrev pub Puts : SectionTable → SectionTable → ℕ → ℕ → ℕ → Type 0
Puts old new file section address =
    (f s : ℕ) → address_in new f s ≡ (if (file == f) && (section == s) then address else address_in old f s)
