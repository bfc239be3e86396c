use Rattle.std.proofs.Common.{◌≡◌, List, [], take}
use Rattle.std.specs.List.{enumerate_from}
use Rattle.macho_model.specs.Links.{Input, Link}
use Rattle.macho_symbol_names.specs.Kept.{Keeps}
use Rattle.macho_needs.specs.Noted.{IsNoted}
use Rattle.macho_promise.specs.Views.{views_of}
use Rattle.macho_relocation_scan.specs.steps.Found.{IsSurveyed}
use Rattle.macho_relocation_scan.specs.steps.Sections.{carried_in, uses_in}
use Rattle.macho_relocation_scan.proofs.walk.survey.Given as goal

abbrev pub invariant-loop-file : goal.invariant-loop-file
invariant-loop-file v =
    record {
      surveyed : (l : Link) → v.views ≡ views_of l → IsNoted l [] v.initial.needs
          → IsSurveyed l (carried_in l (take v.file (enumerate_from 0 l.inputs))) (uses_in l (take v.file (enumerate_from 0 l.inputs)))
          v.needs v.findings;
      kept : (inputs : List Input) → Keeps inputs v.initial.needs.resolved.files → Keeps inputs v.needs.resolved.files;
    }
