-- What is read of a section of an object.
use Rattle.std.specs.Prelude.{◌≡◌, ℕ, ◌<◌, false, List}
use Rattle.macho_records.specs.declared.header.SectionHeader.{SectionHeader}
use Rattle.macho_model.specs.ObjectLaws.{KeepsObjectRules}
use Rattle.macho_model.specs.Objects.{num_sections, section_at, section_bytes}
use Rattle.macho_object.specs.Views.{FileBytes, RelocationBytes}

pub record IsRead (file : FileBytes) (number : ℕ) (header : SectionHeader) (bytes : List ℕ) (s : RelocationBytes) : Type 0 where
  pub same : file ≡ record { bytes = s.bytes; is_dynamic = false }
  pub numbered : number ≡ s.section
  pub object : KeepsObjectRules s.bytes
  pub among : s.section < num_sections s.bytes
  pub head : header ≡ section_at s.bytes s.section
  pub content : bytes ≡ section_bytes s.bytes s.section
