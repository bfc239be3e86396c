-- Each section that is viewed is one of the object's, keeps its rules, and adds what one more adds.
use Rattle.std.proofs.Common.{◌∷◌, [], sym, ap, subst, ◌∙◌}
use Rattle.macho_records.specs.declared.header.SectionHeader.{SectionHeader}
use Rattle.macho_model.specs.Objects.{section_at}
use Rattle.macho_model.specs.Segments.{list_if}
use Rattle.macho_model.specs.Links.{is_carried}
use Rattle.macho_sizing.specs.Sections.{spec_for, KeepsRules, specs_below}
use Rattle.macho_sizing.proofs.Standing.{header_viewed, keeps_rules}
use Rattle.macho_sizing.proofs.Listing.{with_specs, with_both, specs_more}
use Rattle.macho_sizing.proofs.sections.add_sections.Goals as goal

pub add_section-requires : goal.add_section-requires
add_section-requires c =
    let object = c.args.object.now in
    let k = c.loop-section.section in
    let viewed = header_viewed object k c.in-Some.header c.requires.object c.in-Some.ensures in
    subst KeepsRules (sym viewed.0) (keeps_rules object.bytes k c.requires.rules viewed.1)

pub loop-section-preserved : goal.loop-section-preserved
loop-section-preserved c =
    let file = c.args.file in
    let bytes = c.args.object.now.bytes in
    let k = c.loop-section.section in
    let same = (header_viewed c.args.object.now k c.in-Some.header c.requires.object c.in-Some.ensures).0 in
    let added = c.in_ok-add_section.ensures ∙ ap (λ (h : SectionHeader). with_specs c.loop-section.plan
    (list_if (is_carried h) (spec_for file k h ∷ []))) same in
    with_both c.args.plan.now c.loop-section.plan c.add_section.new.plan (specs_below file bytes k)
    (list_if (is_carried (section_at bytes k)) (spec_for file k (section_at bytes k) ∷ [])) c.loop-section.invariant added
    ∙ ap (with_specs c.args.plan.now) (sym (specs_more file bytes k))
