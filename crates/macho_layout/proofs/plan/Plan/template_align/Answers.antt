-- The alignment of the template.
--
-- A section of the template takes the greater of the alignment so far and its own; another is passed over. Behind the last section it is
-- that of the whole template.
use Rattle.std.proofs.Common.{List, map, filter, fold, max, ap, ◌∙◌, arith}
use Rattle.std.proofs.lemmas.List.{take_all}
use Rattle.macho_records.specs.Sections.{is_template_type}
use Rattle.macho_layout.specs.declared.spec.SectionSpec.{SectionSpec}
use Rattle.macho_layout.specs.declared.spec.Planned.{Planned}
use Rattle.macho_layout.specs.Plans.{Planning}
use Rattle.macho_layout.specs.Keys.{specs_of}
use Rattle.macho_layout.specs.Members.{type_of_spec, template_align}
use Rattle.macho_layout.proofs.plan.Plan.template_align.Goals as goal

pub returns : goal.returns
unfolding template_align
returns c = record {
  value = c.loop-section.invariant
      ∙ ap (λ (ss : List Planned). fold max 0 (map (λ (s : SectionSpec). s.align)
      (filter (λ (s : SectionSpec). is_template_type (type_of_spec s)) (specs_of ss))))
      (take_all c.loop-section.section-index c.deref-section-items.result.now (omega arith) ∙ c.deref-section-items.ensures.value)
      ∙ ap (λ (p : Planning). fold max 0 (map (λ (s : SectionSpec). s.align)
      (filter (λ (s : SectionSpec). is_template_type (type_of_spec s)) p.sections))) c.self.view_is;
}
