use Rattle.std.proofs.Common.{List, ◌++◌, take}
use Rattle.macho_model.specs.Links.{Input, Object, Link, SectionId, sections_of_file}
use Rattle.macho_model.specs.Uses.{Use}
use Rattle.macho_symbol_names.specs.Kept.{Keeps}
use Rattle.macho_promise.specs.Noted.{BeginsWith}
use Rattle.macho_relocation_scan.specs.steps.Found.{IsSurveyed}
use Rattle.macho_relocation_scan.specs.steps.Sections.{HasObject, carried_among, uses_among}
use Rattle.macho_relocation_scan.proofs.walk.survey_object.Given as goal

abbrev pub invariant-loop-section : goal.invariant-loop-section
invariant-loop-section v =
    record {
      surveyed : (l : Link) (ss : List SectionId) (us : List Use) → HasObject l v.file v.object.bytes
          → BeginsWith l (us ++ uses_among l (sections_of_file v.file (Object v.object.bytes)))
          → IsSurveyed l ss us v.initial.needs v.initial.findings
          → IsSurveyed l (ss ++ carried_among l (take v.section (sections_of_file v.file (Object v.object.bytes))))
          (us ++ uses_among l (take v.section (sections_of_file v.file (Object v.object.bytes)))) v.needs v.findings;
      kept : (inputs : List Input) → Keeps inputs v.initial.needs.resolved.files → Keeps inputs v.needs.resolved.files;
    }
