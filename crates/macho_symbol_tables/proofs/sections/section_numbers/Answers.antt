-- The table has the numbers of all sections, and that of commons.
use Rattle.std.proofs.Common.{ap, ◌∙◌}
use Rattle.std.specs.Prelude.{unwrap_or, codes}
use Rattle.indexmap.specs.IndexMap.{get}
use Rattle.macho_records.specs.declared.constants.TheConstants.{S_ZEROFILL}
use Rattle.macho_model.specs.Segments.{DATA}
use Rattle.macho_layout.specs.Keys.{same_output}
use Rattle.macho_layout.specs.declared.spec.OutputName.{OutputName}
use Rattle.macho_layout.specs.Placements.{placed_of}
use Rattle.macho_symbol_tables.proofs.sections.section_numbers.Goals as goal

pub returns : goal.returns
returns c = record {
  sections = c.in_ok-objects.ensures (placed_of c.args.placement.now) c.in_ok-by_name.ensures;
  commons =
      c.number_of.ensures ∙ ap (λ (n : OutputName). unwrap_or (get same_output c.in_ok-by_name.by_name n) 0) c.common_name.ensures
      ∙ c.in_ok-by_name.ensures.each DATA (codes "__common") S_ZEROFILL;
}
