-- What the code's own steps over lists say.
use Rattle.macho_model.specs.Links.{SectionId}
use Rattle.macho_layout.specs.declared.spec.SectionSpec.{SectionSpec}

-- which section a plan speaks of
abbrev pub spec_id : SectionSpec → SectionId
spec_id s = record { file = s.file; section = s.section }
