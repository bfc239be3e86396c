-- What was found so far: the first of each kind.
use Rattle.std.specs.Prelude.{◌≡◌, ◌<◌, Bool, true, false, List, Option, Some, None, IfSome, All, Contains}
use Rattle.macho_records.specs.Sections.{segment_name_of}
use Rattle.macho_model.specs.Links.{Link, SectionId, section_id, header_at, carried_of}
use Rattle.macho_model.specs.Uses.{Use}
use Rattle.macho_model.specs.Targets.{is_import}
use Rattle.macho_model.specs.Rows.{is_supported, share_byte, are_pair}
use Rattle.macho_model.specs.Segments.{may_hold_pointers}
use Rattle.macho_model.specs.Values.{FieldOf, fits_signed, is_pointer, needs_fixup}
use Rattle.macho_model.specs.Fields.{Field}
use Rattle.macho_needs.specs.declared.needs.Needs.{Needs}
use Rattle.macho_needs.specs.Noted.{IsNoted}
use Rattle.macho_relocation_scan.specs.declared.findings.Place.{Place}
use Rattle.macho_relocation_scan.specs.declared.findings.Pair.{Pair}
use Rattle.macho_relocation_scan.specs.declared.findings.Addend.{Addend}
use Rattle.macho_relocation_scan.specs.declared.findings.Findings.{Findings}
use Rattle.macho_relocation_scan.specs.Surveys.{IsFine, IsApart}

-- the first of a kind, with another behind it, if that is one
abbrev pub first_if : {X : Type 0} → Bool → Option X → X → Option X
first_if false o x = o
first_if true None x = Some x
first_if true (Some y) x = Some y

abbrev pub first_of : {X : Type 0} → Option X → Option X → Option X
first_of None o = o
first_of (Some x) o = Some x

-- what is found stands
abbrev pub IsUnsupported : Link → Place → Type 0
IsUnsupported l p =
    Contains (carried_of l) (section_id p.file p.section) × (p.relocation < (header_at l (section_id p.file p.section)).nreloc)
    × (is_supported l (section_id p.file p.section) p.relocation ≡ false)

abbrev pub IsOverlap : Link → Pair → Type 0
IsOverlap l p =
    Contains (carried_of l) (section_id p.file p.section) × (p.first < p.second)
    × (p.second < (header_at l (section_id p.file p.section)).nreloc)
    × (share_byte l (section_id p.file p.section) p.first p.second ≡ true)
    × (are_pair l (section_id p.file p.section) p.first p.second ≡ false)

abbrev pub IsBadAddend : Link → Addend → Type 0
IsBadAddend l a =
    (f : Field) × FieldOf l (section_id a.place.file a.place.section) a.place.relocation f × (is_pointer f ≡ true)
    × (is_import f.target ≡ true)
    × (a.addend ≡ f.addend) × (fits_signed 32 a.addend ≡ false)

abbrev pub IsBadPlace : Link → Place → Type 0
IsBadPlace l p =
    (f : Field) × FieldOf l (section_id p.file p.section) p.relocation f × (needs_fixup l (section_id p.file p.section) f ≡ true)
    × (may_hold_pointers (segment_name_of (header_at l (section_id p.file p.section))) ≡ false)

pub record AreStanding (l : Link) (f : Findings) : Type 0 where
  pub unsupported : IfSome f.unsupported (IsUnsupported l)
  pub overlap : IfSome f.overlap (IsOverlap l)
  pub addend : IfSome f.addend (IsBadAddend l)
  pub place : IfSome f.place (IsBadPlace l)

-- nothing is found
pub record IsClean (f : Findings) : Type 0 where
  pub unsupported : f.unsupported ≡ None
  pub overlap : f.overlap ≡ None
  pub addend : f.addend ≡ None
  pub place : f.place ≡ None

-- After some sections and uses: all uses are noted, what is found stands, and where nothing is, all is fine.
pub record IsSurveyed (l : Link) (ss : List SectionId) (us : List Use) (n : Needs) (f : Findings) : Type 0 where
  pub noted : IsNoted l us n
  pub standing : AreStanding l f
  pub fine : IsClean f → All (IsFine l) us
  pub apart : IsClean f → All (IsApart l) ss
