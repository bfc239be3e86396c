use Rattle.std.proofs.Common.{◌≡◌}
use Rattle.indexmap.specs.IndexMap.{get}
use Rattle.macho_model.specs.Placement.{Placed}
use Rattle.macho_layout.specs.Keys.{same_output}
use Rattle.macho_symbol_tables.specs.steps.Sections.{FindsNumbers}
use Rattle.macho_symbol_tables.proofs.SectionNumbers.{numbers_to}
use Rattle.macho_symbol_tables.proofs.sections.numbers_of_sections.Given as goal

-- the numbers of the sections so far
abbrev pub invariant-loop-section : goal.invariant-loop-section
invariant-loop-section l =
    (p : Placed) → FindsNumbers p (get same_output l.by_name) → l.numbers.items ≡ numbers_to p l.file l.section
