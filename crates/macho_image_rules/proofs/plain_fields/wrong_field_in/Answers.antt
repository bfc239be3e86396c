-- The first wrong field of a section, in the section's bytes.
--
-- The view that is there is that of the section's object. Zerofill has no fields. The bytes of another section lie in the file part of its
-- segment, so the file has all of them, and each is the one that the segments have at its address. Where the section has bytes, the segment
-- is mapped and ends in the address space.
use Rattle.std.proofs.Common.{length, sym, ap, subst, ◌∙◌, arith, Option, ℕ}
use Rattle.std.specs.Prelude.{option_copied, IfNone}
use Rattle.std.proofs.lemmas.Option.{IfSome_then}
use Rattle.macho_records.specs.Sections.{is_zerofill}
use Rattle.macho_model.proofs.ObjectLaws.{keeps_of}
use Rattle.macho_layout.specs.Placements.{placed_of}
use Rattle.macho_fields.specs.Reads.{PlainFieldsRead}
use Rattle.macho_contents.proofs.Viewing.{header_is}
use Rattle.macho_image_rules.proofs.Standing.{held_in, view_static}
use Rattle.macho_image_rules.proofs.Plainly.{AreBytesAt, plain_say, plain_wrong, all_filed, low_end, to_fill, fields_inside, zeros_say}
use Rattle.macho_image_rules.proofs.plain_fields.wrong_field_in.Goals as goal

pub returns-then-is_no_bits-clause-found : goal.returns-then-is_no_bits-clause-found
returns-then-is_no_bits-clause-found g c = λ l at here none.
    let f = c.in-Some.file.now in
    let seen = sym c.view_of.ensures ∙ ap option_copied c.in-Some.is in
    let header = header_is c.in-Some.file.now c.args.place.section c.section.result c.in-Some-section.header c.section.ensures
    c.in-Some-section.is in
    let static = view_static c.args.views.now c.args.image.now (placed_of c.args.placement.now) c.args.place f c.requires.stands seen in
    zeros_say l c.args.image.now (placed_of c.args.placement.now) c.args.place c.args.views.now (g.P.Places.look c.args.places.now) f at
    here seen (keeps_of f.is_dynamic f.bytes static.0 c.is_dynamic-object.ensures.kept) static.1
    (ap is_zerofill (sym header) ∙ sym c.is_no_bits.ensures ∙ c.if-is_no_bits.true)

pub first_wrong_field-requires-clause-long : goal.first_wrong_field-requires-clause-long
first_wrong_field-requires-clause-long g c =
    let p = placed_of c.args.placement.now in
    let seen = sym c.view_of.ensures ∙ ap option_copied c.in-Some.is in
    let header = header_is c.in-Some.file.now c.args.place.section c.section.result c.in-Some-section.header c.section.ensures
    c.in-Some-section.is in
    let held = held_in c.args.views.now c.args.image.now p c.args.place c.in-Some.file.now c.index-segment.result.now c.requires.stands seen
    c.index-segment.ensures in
    let bytes = c.filed_bytes-bytes.result.now in
    let long = all_filed c.args.image.now c.args.place c.in-Some.file.now c.index-segment.result.now c.in-Some-section.header (length bytes)
    held header (sym c.is_no_bits.ensures ∙ c.if-is_no_bits.false) c.filed_bytes-bytes.ensures.short c.filed_bytes-bytes.ensures.whole in
    long

pub first_wrong_field-requires-clause-low : goal.first_wrong_field-requires-clause-low
first_wrong_field-requires-clause-low g c =
    let p = placed_of c.args.placement.now in
    let seen = sym c.view_of.ensures ∙ ap option_copied c.in-Some.is in
    let header = header_is c.in-Some.file.now c.args.place.section c.section.result c.in-Some-section.header c.section.ensures
    c.in-Some-section.is in
    let held = held_in c.args.views.now c.args.image.now p c.args.place c.in-Some.file.now c.index-segment.result.now c.requires.stands seen
    c.index-segment.ensures in
    let bytes = c.filed_bytes-bytes.result.now in
    let long = all_filed c.args.image.now c.args.place c.in-Some.file.now c.index-segment.result.now c.in-Some-section.header (length bytes)
    held header (sym c.is_no_bits.ensures ∙ c.if-is_no_bits.false) c.filed_bytes-bytes.ensures.short c.filed_bytes-bytes.ensures.whole in
    low_end c.args.image.now c.args.place c.in-Some.file.now c.index-segment.result.now (length bytes) c.requires.accepted held long
    (omega arith)

pub returns-clause-found : goal.returns-clause-found
returns-clause-found g c = λ l at here none.
    let p = placed_of c.args.placement.now in
    let seen = sym c.view_of.ensures ∙ ap option_copied c.in-Some.is in
    let header = header_is c.in-Some.file.now c.args.place.section c.section.result c.in-Some-section.header c.section.ensures
    c.in-Some-section.is in
    let held = held_in c.args.views.now c.args.image.now p c.args.place c.in-Some.file.now c.index-segment.result.now c.requires.stands seen
    c.index-segment.ensures in
    let bytes = c.filed_bytes-bytes.result.now in
    let long = all_filed c.args.image.now c.args.place c.in-Some.file.now c.index-segment.result.now c.in-Some-section.header (length bytes)
    held header (sym c.is_no_bits.ensures ∙ c.if-is_no_bits.false) c.filed_bytes-bytes.ensures.short c.filed_bytes-bytes.ensures.whole in
    let are : AreBytesAt c.args.image.now c.args.place.address bytes =
    record {
      each = λ i low. c.filed_bytes-bytes.ensures.each i (omega (arith, low, c.filed_bytes-bytes.ensures.short));
      only = λ i v low. c.filed_bytes-bytes.ensures.only i v (omega (arith, low, c.filed_bytes-bytes.ensures.short));
    } in
    let look = g.P.Places.look c.args.places.now in
    plain_say l c.args.image.now p c.args.place bytes are
    (fields_inside l p c.args.place c.args.views.now look c.in-Some.file.now (length bytes) at here seen long)
    (subst (λ (r : Option ℕ). IfNone r (PlainFieldsRead l p c.args.place bytes)) none
    (c.first_wrong_field.ensures.found l p (to_fill l p c.args.place c.args.views.now look c.in-Some.file.now at here seen)))

pub returns-clause-why : goal.returns-clause-why
returns-clause-why g c = λ l at here.
    let p = placed_of c.args.placement.now in
    let seen = sym c.view_of.ensures ∙ ap option_copied c.in-Some.is in
    let header = header_is c.in-Some.file.now c.args.place.section c.section.result c.in-Some-section.header c.section.ensures
    c.in-Some-section.is in
    let held = held_in c.args.views.now c.args.image.now p c.args.place c.in-Some.file.now c.index-segment.result.now c.requires.stands seen
    c.index-segment.ensures in
    let bytes = c.filed_bytes-bytes.result.now in
    let long = all_filed c.args.image.now c.args.place c.in-Some.file.now c.index-segment.result.now c.in-Some-section.header (length bytes)
    held header (sym c.is_no_bits.ensures ∙ c.if-is_no_bits.false) c.filed_bytes-bytes.ensures.short c.filed_bytes-bytes.ensures.whole in
    let are : AreBytesAt c.args.image.now c.args.place.address bytes =
    record {
      each = λ i low. c.filed_bytes-bytes.ensures.each i (omega (arith, low, c.filed_bytes-bytes.ensures.short));
      only = λ i v low. c.filed_bytes-bytes.ensures.only i v (omega (arith, low, c.filed_bytes-bytes.ensures.short));
    } in
    let look = g.P.Places.look c.args.places.now in
    IfSome_then c.first_wrong_field.result
    (c.first_wrong_field.ensures.why l p (to_fill l p c.args.place c.args.views.now look c.in-Some.file.now at here seen))
    (λ r wrong. plain_wrong l c.args.image.now p c.args.place bytes r are
    (fields_inside l p c.args.place c.args.views.now look c.in-Some.file.now (length bytes) at here seen long) wrong)
