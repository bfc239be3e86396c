-- The alignment of the template: what holds before section k is that it is that of the template of the first k.
use Rattle.std.proofs.Common.{◌≡◌, map, fold, max, take, filter}
use Rattle.macho_records.specs.Sections.{is_template_type}
use Rattle.macho_layout.specs.Keys.{specs_of}
use Rattle.macho_layout.specs.Members.{type_of_spec}
use Rattle.macho_layout.proofs.plan.Plan.template_align.Given as goal

abbrev pub invariant-loop-section : goal.invariant-loop-section
invariant-loop-section l =
    l.align ≡ fold max 0 (map (λ s. s.align) (filter (λ s. is_template_type (type_of_spec s))
    (specs_of (take l.section-index l.section-items))))
