-- What holds before section k: none of the first k is of the template.
use Rattle.std.proofs.Common.{◌≡◌, Bool, drop}
use Rattle.std.specs.List.{list_any}
use Rattle.macho_records.specs.Sections.{is_template_type}
use Rattle.macho_layout.specs.declared.spec.SectionSpec.{SectionSpec}
use Rattle.macho_layout.specs.Members.{type_of_spec}
use Rattle.macho_placement_rules.proofs.template.has_template.Given as goal

-- a section is of the template
abbrev of_template : SectionSpec → Bool
of_template s = is_template_type (type_of_spec s)

abbrev pub invariant-loop-spec : goal.invariant-loop-spec
invariant-loop-spec l =
    list_any of_template l.specs ≡ list_any of_template (drop l.spec-index l.specs)
