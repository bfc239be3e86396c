use Rattle.std.proofs.Common.{◌≡◌, ℕ, ◌<◌, false}
use Rattle.std.specs.Str.{bytes_eq}
use Rattle.macho_records.specs.Sections.{section_name_of}
use Rattle.macho_model.specs.Objects.{section_at}
use Rattle.macho_object.proofs.file.File.section_by_name.Given as goal

abbrev pub invariant-loop-index : goal.invariant-loop-index
invariant-loop-index l = (j : ℕ) → j < l.index → bytes_eq (section_name_of (section_at l.self-inside.outline.input.now j)) l.name ≡ false
