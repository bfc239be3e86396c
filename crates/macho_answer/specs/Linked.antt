-- What a link answers: an image as it is promised, or a refusal that stands.
use Rattle.std.specs.Prelude.{◌≡◌, ℕ, List, map}
use Rattle.macho_model.specs.declared.placed.Counts.{Counts}
use Rattle.macho_model.specs.Links.{Link}
use Rattle.macho_model.specs.Told.{ToldImport, ToldExport}
use Rattle.macho_model.specs.Valid.{IsValid}
use Rattle.macho_layout.specs.Placements.{placed_of}
use Rattle.macho_symbols.specs.declared.exports.ExportName.{ExportName}
use Rattle.macho_answer.specs.Sizes.{AreCounts}
use Rattle.macho_answer.specs.Promise.{IsAnswer}
use Rattle.macho_answer.specs.declared.fault.LinkError.{LinkError}
use Rattle.macho_answer.specs.declared.fault.LinkError.TheVariants as error
use Rattle.macho_answer.specs.declared.fault.LinkError.TheVariants.{OutOfMemory}
use Rattle.macho_answer.specs.Standing.{Stands}
use Rattle.macho_answer.specs.declared.image.LinkedImage.{LinkedImage}
use Rattle.macho_answer.specs.declared.image.ImportName.{ImportName}

-- what is told of an import, and of an exported name
abbrev pub import_of : ImportName → ToldImport
import_of i = record { library = i.library; name = i.name.items }

abbrev pub export_of : ExportName → ToldExport
export_of e = record { name = e.name.items; target = e.target; weak = e.weak }

-- THE image of a link, which has this identifier.
pub record IsImageOf (l : Link) (uuid : List ℕ) (image : LinkedImage) : Type 0 where
  -- the sizes of the link
  pub counts : Counts
  -- the bytes and the placement are as promised, what is told beside them is the link's, and nothing stands that it is refused for
  pub answer : IsAnswer l counts uuid image.bytes.items (placed_of image.placement) (map (λ library. library.items) image.libraries.items)
      (map import_of image.imports.items) image.fixups (map export_of image.exports.items)

-- THE refusal of a link.
pub record IsRefused (l : Link) (e : LinkError) : Type 0 where
  -- what it says of the link and its sizes is so
  pub stands : (counts : Counts) → AreCounts l counts → Stands l counts e
  -- a valid link is refused for want of memory alone
  pub spared : (counts : Counts) → AreCounts l counts → IsValid l counts → e ≡ OutOfMemory

-- THE refusal of a link stands: what it says of the link is so, and the link is none that is owed an image. Want of memory is free;
-- the names and the inputs were looked at before.
abbrev pub RefusalStands : Link → LinkError → Type 0
RefusalStands l error.BadName = ⊥
RefusalStands l (error.BadInput fault) = ⊥
RefusalStands l refusal = IsRefused l refusal
