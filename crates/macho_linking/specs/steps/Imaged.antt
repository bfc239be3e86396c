-- The image of a planned link, and a link while it is read, sized and answered.
use Rattle.std.specs.Prelude.{◌≡◌, ℕ, ◌+◌, ◌<◌, false, List}
use Rattle.macho_layout.specs.Placements.{placed_of}
use Rattle.macho_model.specs.declared.placed.Counts.{Counts}
use Rattle.macho_model.specs.Links.{Link}
use Rattle.macho_model.specs.Placement.{Placed}
use Rattle.macho_model.specs.Limits.{IsWritten32, LIMIT_32}
use Rattle.macho_model.specs.Needs.{libraries_needed}
use Rattle.macho_model.specs.Faults.{bad_name}
use Rattle.macho_model.specs.ImportTable.{fixup_count}
use Rattle.macho_promise.specs.Promise.{IsLinked}
use Rattle.macho_fields.specs.Faults.{NoneIsBad}
use Rattle.macho_linkedit.specs.declared.exports.NamedExport.{NamedExport}
use Rattle.macho_linkedit.specs.Tries.{AreKept}
use Rattle.macho_symbol_tables.specs.Exports.{exports_told}
use Rattle.macho_refusal_laws.specs.ReadLink.{ReadLink}
use Rattle.macho_refusal_laws.specs.Read.{IsReadOf}
use Rattle.macho_linking.specs.Planning.{IsSingle}
use Rattle.macho_sizing.specs.declared.asked.SizedLink.{SizedLink}
use Rattle.macho_sizing.specs.Sized.{IsSizedOf}
use Rattle.macho_linking.specs.declared.write.Written.{Written}

-- Bytes are the image of a planned link, and nothing that placing shows stands against it.
pub record IsImaged (l : Link) (counts : Counts) (p : Placed) (uuid bytes : List ℕ) (fixups : ℕ) : Type 0 where
  pub linked : IsLinked l counts uuid bytes p
  pub many : fixups ≡ fixup_count l
  pub good : NoneIsBad l p
  pub near : (x : ℕ) → IsWritten32 l p x → x < p.base + LIMIT_32

-- Sizes and placement are those of a link.
pub record HasSizes (l : Link) (read : ReadLink) (sized : SizedLink) : Type 0 where
  pub kept : List NamedExport
  pub exports : AreKept l (exports_told read.exports.items) kept
  pub sizes : IsSizedOf l kept sized

-- The image of a link is made, with these sizes.
pub record IsMade (l : Link) (uuid : List ℕ) (read : ReadLink) (written : Written) (sized : SizedLink) : Type 0 where
  pub image : IsImaged l sized.counts (placed_of sized.placement) uuid written.bytes.items written.fixups
  pub sizes : HasSizes l read sized

-- THE link is to be answered by an image.
pub record IsToAnswer (l : Link) (uuid : List ℕ) (written : Written) (sized : SizedLink) (read : ReadLink)
    (libraries : List (List ℕ)) : Type 0 where
  pub made : IsMade l uuid read written sized
  pub read_is : IsReadOf l read
  pub libraries_are : libraries ≡ libraries_needed l
  pub single : IsSingle l
  pub name : bad_name l ≡ false
