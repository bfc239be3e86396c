-- The number of the section's header is that of the names in it.
use Rattle.std.proofs.Common.{ap, ◌∙◌}
use Rattle.std.specs.Prelude.{unwrap_or}
use Rattle.indexmap.specs.IndexMap.{get}
use Rattle.macho_records.specs.Sections.{type_of}
use Rattle.macho_layout.specs.Keys.{same_output}
use Rattle.macho_layout.specs.declared.spec.OutputName.{OutputName}
use Rattle.macho_symbol_tables.specs.steps.Sections.{number_with}
use Rattle.macho_symbol_tables.proofs.sections.number_of_section.Goals as goal

pub returns-in-Some : goal.returns-in-Some
returns-in-Some c p finds =
    let h = c.in-Some.header in
    c.number_of.ensures ∙ ap (λ (n : OutputName). unwrap_or (get same_output c.args.numbers.now n) 0) c.merged_by.ensures
    ∙ finds.each h.segname h.sectname (type_of h)
    ∙ ap (number_with p) c.in-Some.ensures
