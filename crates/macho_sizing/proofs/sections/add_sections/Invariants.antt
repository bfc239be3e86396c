use Rattle.std.proofs.Common.{◌≡◌}
use Rattle.macho_sizing.specs.Sections.{specs_below}
use Rattle.macho_sizing.proofs.Listing.{with_specs}
use Rattle.macho_sizing.proofs.sections.add_sections.Given as goal

abbrev pub invariant-loop-section : goal.invariant-loop-section
invariant-loop-section l = l.plan ≡ with_specs l.initial.plan (specs_below l.file l.object.bytes l.section)
