-- A section that a link has, and the view of an object of the link.
use Rattle.std.specs.Prelude.{◌≡◌, ℕ, ◌<◌, false, List, get_or, length}
use Rattle.macho_model.specs.Links.{Link, SectionId, Object, no_input}
use Rattle.macho_model.specs.Objects.{num_sections}
use Rattle.macho_object.specs.Views.{FileBytes}

-- its file is an object of the link, and has a section of this number
pub record HasSection (l : Link) (s : SectionId) : Type 0 where
  pub bytes : List ℕ
  pub there : s.file < length l.inputs
  pub object : get_or l.inputs s.file no_input ≡ Object bytes
  pub within : s.section < num_sections bytes

-- an object of the link, by the number of its file, as it is viewed
pub record IsViewed (l : Link) (file : ℕ) (object : FileBytes) : Type 0 where
  pub kind : object.is_dynamic ≡ false
  pub is : get_or l.inputs file no_input ≡ Object object.bytes
