-- Why a section, a stub or a slot isn't filled, and when that stands for a placement of a link.
use Rattle.std.specs.Prelude.{◌≡◌, ℕ, true, Some}
use Rattle.macho_model.specs.declared.targets.Site.{Site}
use Rattle.macho_model.specs.declared.targets.Site.TheVariants as site
use Rattle.macho_model.specs.declared.placed.PlacedSection.{PlacedSection}
use Rattle.macho_model.specs.Links.{Link, section_id}
use Rattle.macho_model.specs.Fields.{Field}
use Rattle.macho_model.specs.Placement.{Placed}
use Rattle.macho_model.specs.Values.{FieldOf, needs_fixup, BadRange, BadRebase}
use Rattle.macho_model.specs.Faults.{BadPlace}
use Rattle.macho_fields.specs.declared.fault.FillFault.{FillFault}
use Rattle.macho_fields.specs.declared.fault.FillFault.TheVariants.{Range, Rebase, Place, Unsupported, OutOfMemory}

-- a pointer that the loader writes has a place that no chain word may have
abbrev pub IsBadPlace : Link → Placed → ℕ → ℕ → ℕ → Type 0
IsBadPlace l p file section relocation =
    (f : Field) × FieldOf l (section_id file section) relocation f × (needs_fixup l (section_id file section) f ≡ true)
    × BadPlace l (section_id file section) f (Some p)

-- THE fault stands; nothing is said of want of memory. No relocation of a sound link is unsupported.
abbrev pub FillStands : Link → Placed → FillFault → Type 0
FillStands l p (Range at) = BadRange l p at
FillStands l p (Rebase at) = BadRebase l p at
FillStands l p (Place file section relocation) = IsBadPlace l p file section relocation
FillStands l p Unsupported = ⊥
FillStands l p OutOfMemory = Unit {0}

-- No such fault stands for the fields of a section.
pub record NoneStandsIn (l : Link) (p : Placed) (q : PlacedSection) : Type 0 where
  pub range : (r : ℕ) → BadRange l p (site.Field q.file q.section r) → ⊥
  pub rebase : (r : ℕ) → BadRebase l p (site.Field q.file q.section r) → ⊥
  pub place : (r : ℕ) → IsBadPlace l p q.file q.section r → ⊥

-- No such fault stands at all: no value is out of the range of its field or stub, each word that the loader writes can say its value, and
-- has a place.
pub record NoneIsBad (l : Link) (p : Placed) : Type 0 where
  pub range : (at : Site) → BadRange l p at → ⊥
  pub rebase : (at : Site) → BadRebase l p at → ⊥
  pub place : (file section relocation : ℕ) → IsBadPlace l p file section relocation → ⊥
