-- Tables of addresses.
use Rattle.std.specs.Prelude.{◌≡◌, ℕ, ◌==◌, ◌&&◌, nat_lt, if◌then◌else◌, Bool, List, [], length, get_or, map, filter, unwrap_or}
use Rattle.std.specs.declared.vec.Vec.{Vec}
use Rattle.indexmap.specs.IndexMap.{get}
use Rattle.macho_model.specs.declared.placed.PlacedSection.{PlacedSection}
use Rattle.macho_model.specs.Lists.{of_first}
use Rattle.macho_model.specs.Placement.{Placed}
use Rattle.macho_places.specs.declared.addresses.SectionKey.{SectionKey}
use Rattle.macho_places.specs.declared.addresses.SectionTable.{SectionTable}
use Rattle.macho_places.specs.declared.addresses.Addresses.{Addresses}

abbrev pub same_section : SectionKey → SectionKey → Bool
same_section a b = (a.file == b.file) && (a.section == b.section)

abbrev pub rows_of : {A : Type 0} → List (Vec ℕ A) → List (List ℕ)
rows_of rows = map (λ r. r.items) rows

-- the address that a table has for a section: in the file's row, or by its key where there is no row for it
abbrev pub address_in : SectionTable → ℕ → ℕ → ℕ
address_in table file section =
    if nat_lt file (length table.rows.items) && nat_lt section 256 then get_or (get_or (rows_of table.rows.items) file []) section 0
    else unwrap_or (get same_section table.others (record { file = file; section = section })) 0

-- A table has the address of each section of a list, the first where it is listed twice, and 0 for each other.
abbrev pub HoldsSections : SectionTable → List PlacedSection → Type 0
HoldsSections table sections =
    (file section : ℕ)
    → address_in table file section
    ≡ of_first 0 (λ q. q.address) (filter (λ q. (q.file == file) && (q.section == section)) sections)

-- THE tables of a placement.
pub record AreAddresses (a : Addresses) (q : Placed) : Type 0 where
  pub sections : HoldsSections a.sections q.sections
  pub commons : a.commons.items ≡ map (λ c. c.address) q.commons
