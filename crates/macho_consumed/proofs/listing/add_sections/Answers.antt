use Rattle.std.proofs.Common.{◌++◌, ◌∷◌, [], List, ap, ◌∙◌, sym}
use Rattle.macho_consumed.specs.declared.listing.SectionRef.{SectionRef}
use Rattle.macho_consumed.specs.Kinds.{is_of_kind}
use Rattle.macho_consumed.specs.steps.Listed.{ref}
use Rattle.macho_consumed.proofs.InFiles.{refs_none, refs_passed, refs_more, told_section}
use Rattle.macho_consumed.proofs.listing.add_sections.Goals as goal

pub loop-section-init : goal.loop-section-init
loop-section-init c = refs_none _ _ _ _

pub loop-section-preserved-then-not-is_of_kind : goal.loop-section-preserved-then-not-is_of_kind
loop-section-preserved-then-not-is_of_kind c =
    let header = told_section _ _ _ _ c.in-Some.ensures in
    let other = sym (c.if-not-is_of_kind.ensures ∙ ap (is_of_kind c.args.kind) header) in
    c.loop-section.invariant ∙ ap (λ (xs : List SectionRef). c.args.refs.now.items ++ xs) (refs_passed _ _ _ _ other)

pub loop-section-preserved : goal.loop-section-preserved
loop-section-preserved c =
    let header = told_section _ _ _ _ c.in-Some.ensures in
    let is = sym (c.if-not-is_of_kind.ensures ∙ ap (is_of_kind c.args.kind) header) in
    c.in_ok-push.ensures.items ∙ ap (λ (xs : List SectionRef). xs ++ ref c.args.number c.loop-section.section ∷ []) c.loop-section.invariant
    ∙ refs_more _ _ _ _ _ is
