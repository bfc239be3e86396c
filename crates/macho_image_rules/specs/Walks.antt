-- What walks over all parts of an image rest on, and what they tell.
use Rattle.std.specs.Prelude.{◌≡◌, ℕ, ◌+◌, ◌<◌, ◌≤◌, false, List, Option, Some, None, get_or, All, Contains}
use Rattle.macho_records.specs.Sections.{is_zerofill}
use Rattle.macho_model.specs.declared.placed.Counts.{Counts}
use Rattle.macho_model.specs.declared.placed.PlacedSegment.{PlacedSegment}
use Rattle.macho_model.specs.declared.placed.PlacedSection.{PlacedSection}
use Rattle.macho_model.specs.Lists.{IsNumber}
use Rattle.macho_model.specs.Objects.{num_sections, section_at}
use Rattle.macho_model.specs.Links.{Link}
use Rattle.macho_model.specs.Placement.{Placed, IsPlaced}
use Rattle.macho_object.specs.Views.{FileBytes}
use Rattle.macho_promise.specs.Views.{views_of}
use Rattle.macho_image_rules.specs.Segments.{SegmentsAre}
use Rattle.macho_image_rules.specs.Bytes.{IsMapped, IsWrongByte}
use Rattle.macho_image_rules.specs.declared.walks.WrongByte.{WrongByte}

-- A placed section is one of a viewed object and lies in the segment of its number, which an image has mapped where the
-- section has bytes; bytes in the file lie in its file part.
pub record SectionStands (views : List (Option FileBytes)) (b : List ℕ) (p : Placed) (q : PlacedSection) : Type 0 where
  pub file : FileBytes
  pub viewed : get_or views q.file None ≡ Some file
  pub static : file.is_dynamic ≡ false
  pub among : q.section < num_sections file.bytes
  pub segment : PlacedSegment
  pub number : IsNumber p.segments q.segment segment
  pub mapped : 0 < (section_at file.bytes q.section).size → IsMapped b segment
  pub from : segment.address ≤ q.address
  pub to : q.address + (section_at file.bytes q.section).size ≤ segment.address + segment.size
  pub filed : is_zerofill (section_at file.bytes q.section) ≡ false → 0 < (section_at file.bytes q.section).size
      → q.address + (section_at file.bytes q.section).size ≤ segment.address + segment.file_size

abbrev pub SectionsStand : List (Option FileBytes) → List ℕ → Placed → Type 0
SectionsStand views b p = All (SectionStands views b p) p.sections

-- all sections of a placed link stand so, where the image's segments are the placement's
abbrev pub PlacedSectionsStand : Type 0
PlacedSectionsStand =
    (l : Link) (counts : Counts) (b : List ℕ) (p : Placed) → IsPlaced l counts p → SegmentsAre b p → SectionsStand (views_of l) b p

-- What is told of a section is that of a placed one whose byte at the offset stands in no field and isn't the input's.
pub record IsWrongIn (l : Link) (b : List ℕ) (p : Placed) (t : WrongByte) : Type 0 where
  pub place : PlacedSection
  pub one : Contains p.sections place
  pub file : place.file ≡ t.file
  pub section : place.section ≡ t.section
  pub wrong : IsWrongByte l b place t.offset
