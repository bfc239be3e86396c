use Rattle.std.proofs.Common.{◌≡◌, List, ◌++◌, take, Contains}
use Rattle.macho_model.specs.Links.{Input, Link, SectionId, object_of, carried_of}
use Rattle.macho_model.specs.Uses.{Use, carried_uses}
use Rattle.macho_symbol_names.specs.Kept.{Keeps}
use Rattle.macho_promise.specs.Noted.{BeginsWith}
use Rattle.macho_relocation_scan.specs.steps.Found.{IsSurveyed}
use Rattle.macho_relocation_scan.specs.steps.Windows.{IsLast}
use Rattle.macho_relocation_scan.specs.steps.Overlaps.{IsOrder}
use Rattle.macho_relocation_scan.specs.steps.Sections.{id_of}
use Rattle.macho_relocation_scan.proofs.section.survey_relocations.Given as goal

abbrev pub invariant-loop-index : goal.invariant-loop-index
invariant-loop-index v =
    record {
      surveyed : (l : Link) (ss : List SectionId) (us : List Use) → object_of l v.at.file ≡ v.object.bytes
          → Contains (carried_of l) (id_of v.at)
          → BeginsWith l (us ++ carried_uses l (id_of v.at)) → IsSurveyed l ss us v.initial.needs v.initial.findings
          → IsSurveyed l ss (us ++ take v.index (carried_uses l (id_of v.at))) v.needs v.findings;
      last : IsLast v.list.bytes v.list.section v.index v.last;
      order : IsOrder v.list.bytes v.list.section v.index v.order;
      kept : (inputs : List Input) → Keeps inputs v.initial.needs.resolved.files → Keeps inputs v.needs.resolved.files;
    }
