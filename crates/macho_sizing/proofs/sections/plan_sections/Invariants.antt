use Rattle.std.proofs.Common.{◌≡◌}
use Rattle.macho_sizing.proofs.Listing.{with_specs, specs_of_first}
use Rattle.macho_sizing.proofs.sections.plan_sections.Given as goal

abbrev pub invariant-loop-file : goal.invariant-loop-file
invariant-loop-file l = l.plan ≡ with_specs l.initial.plan (specs_of_first l.views l.file)
