-- The first wrong byte of a section.
--
-- Of zerofill it is the first that isn't 0: the input has no bytes there, and no fields.
use Rattle.std.proofs.Common.{◌<◌, sym, ap, subst, ◌∙◌}
use Rattle.std.proofs.lemmas.Option.{IfSome_then}
use Rattle.macho_records.specs.Sections.{type_of, is_zerofill_type}
use Rattle.macho_records.specs.declared.header.SectionHeader.{SectionHeader}
use Rattle.macho_object.proofs.Options.{some_if}
use Rattle.macho_model.proofs.ObjectLaws.{keeps_of}
use Rattle.macho_image_rules.proofs.Zerofill.{zeros_are, zero_is_wrong}
use Rattle.macho_image_rules.proofs.marks.first_wrong_byte.Goals as goal

pub returns-then-is_zerofill_type-clause-found : goal.returns-then-is_zerofill_type-clause-found
returns-then-is_zerofill_type-clause-found c = λ l same none.
    let header = (some_if _ _ _ c.in-Some.ensures).1 in
    let told = sym (ap is_zerofill_type (c.typ.ensures ∙ ap type_of header)) in
    let zeros = told ∙ sym c.is_zerofill_type.ensures ∙ c.if-is_zerofill_type.true in
    zeros_are l c.args.image.now c.args.place c.args.file.now.bytes same zeros
    (λ i low. c.first_nonzero.ensures.found none i (subst (λ (h : SectionHeader). i < h.size) (sym header) low))

pub returns-then-is_zerofill_type-clause-why : goal.returns-then-is_zerofill_type-clause-why
returns-then-is_zerofill_type-clause-why c = λ l same.
    let header = (some_if _ _ _ c.in-Some.ensures).1 in
    let object = keeps_of c.args.file.now.is_dynamic c.args.file.now.bytes c.requires.object c.is_dynamic-object.ensures.kept in
    let told = sym (ap is_zerofill_type (c.typ.ensures ∙ ap type_of header)) in
    let zeros = told ∙ sym c.is_zerofill_type.ensures ∙ c.if-is_zerofill_type.true in
    IfSome_then c.first_nonzero.result c.first_nonzero.ensures.why
    (λ i wrong. zero_is_wrong l c.args.image.now c.args.place c.args.file.now.bytes i same object c.requires.among zeros
    (subst (λ (h : SectionHeader). i < h.size) header wrong.0) wrong.1)
